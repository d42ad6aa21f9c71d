-- Each request gives the first refusal of its order, and a refusal leaves what was lent to it as it was. Assumes nothing.
use Rattle.std.proofs.Common.{◌≡◌, ℕ, Bool, true, false, cond, ltb, leb, ◌↔◌, List, length, sym, refl, ◌∙◌, arith, ltb-false, ltb-true, leb-false, leb-true, Result, Ok, Err}
use Rattle.dossier.specs.Limits.{width}
use Rattle.dossier.specs.Bytes.{records, elements_of}
use Rattle.dossier.specs.Replies.{refusal, and_then, room_for}
use Rattle.dossier.specs.Reading.{read_of}
use Rattle.dossier.specs.Refusing.{Refusals, ◌before◌, in_elements, too_short}
use Rattle.dossier.specs.declared.elements.Decision.{Decision}
use Rattle.dossier.specs.declared.Refusal.{Refusal}
use Rattle.dossier.proofs.Rows.{refused-row}
use Rattle.dossier.proofs.Orders.{Refuses, here, on, none as no-refusal, row_here, row_never, given_never, counted_never, then, room-refused, regrouped, after-unchanged, after-refuses, after-only}
use Rattle.rules.specs.ReadingRules.{read_rules_of}
use Rattle.rules.specs.Combining.{last_combining, combining_of, decision}
use Rattle.rules.specs.Deciding.{numbers_of, asked_of, both_rules, answered, decide_of}
use Rattle.rules.proofs.ListSounds.{refused-row as refused-rules}
use Rattle.marks.specs.Marks.{first}
use Rattle.marks.specs.Walking.{walked}
use Rattle.listing.specs.Area.{listed_of, list_reply, list_area}
use Rattle.listing.specs.Back.{Told, marked, none, Back}
use Rattle.least.specs.Least.{Answers, by_rules}
use Rattle.least.specs.Folding.{Folds, FoldedAfter, Folded, asked_for, FoldedFor}
use Rattle.least.specs.Judging.{Reports, JudgedAfter, Judged, JudgedFor}
use Rattle.view.specs.View.{Viewed, Views}
use Rattle.view.proofs.Keeping.{keeps_unique}
use Rattle.demands.specs.Refusing.{in_rules, too_short_for_view, no_marks, no_element, no_combining}
use Rattle.least.specs.declared.Report.{Report}

-- ---- listing

pub list-refused : (d area : List ℕ) → Refuses (list_reply d area) (in_elements d before too_short (length (listed_of d)) area)
unfolding list_reply
list-refused d area =
    then (read_of d) (room_for (length (listed_of d)) area) (refused-row d) (λ n e. room-refused width (length (listed_of d)) area)

pub list-unchanged : (d area : List ℕ) (f : Refusal) → list_reply d area ≡ Err f → list_area d area ≡ area
unfolding list_area
list-unchanged d area f e = rw e

-- ---- reading back

pub told-refused : (d rs : List ℕ) {reply : Result ℕ Refusal} {new : List ℕ} → Told d rs reply new → Refuses reply (no_marks d rs)
told-refused d rs (marked ms g) = no-refusal (row_never (λ h. h ms g)) given_never
told-refused d rs (none h) = row_here 9 1 0 _ h

told-unchanged : (d rs : List ℕ) {reply : Result ℕ Refusal} {new : List ℕ} (f : Refusal) → Told d rs reply new → reply ≡ Err f → new ≡ d
told-unchanged d rs f (marked ms g) e = absurd (given_never f e)
told-unchanged d rs f (none h) e = refl

module _ (d rs : List ℕ) (reply : Result ℕ Refusal) (new : List ℕ) where
  abbrev back-asked : Result ℕ Refusal
  back-asked = and_then (read_of d) (read_rules_of d 1 rs)

  pub back-refused : Back d rs reply new → Refuses reply (in_elements d before in_rules d 1 rs before no_marks d rs)
  back-refused b =
      regrouped
      (after-refuses d (Told d rs) (λ r n t. told-refused d rs t) back-asked
      (then (read_of d) (read_rules_of d 1 rs) (refused-row d) (λ n e. refused-rules d rs 1)) reply new b)

  pub back-unchanged : (f : Refusal) → Back d rs reply new → reply ≡ Err f → new ≡ d
  back-unchanged f = after-unchanged d (Told d rs) (λ r n f t. told-unchanged d rs f t) back-asked reply new f

-- ---- deciding

numbers_refused : (d : List ℕ) (c i : ℕ) → Refuses (numbers_of (records d) c i) (no_combining c before no_element d i)
unfolding numbers_of
numbers_refused d c i = go (ltb last_combining c) (leb (records d) i) refl refl
  where
    go : (s t : Bool) → ltb last_combining c ≡ s → leb (records d) i ≡ t
        → Refuses (cond s (refusal 11 0 0) (cond t (refusal 10 0 0) (Ok (records d)))) (no_combining c before no_element d i)
    go true t p q = here (row_here 11 0 0 _ (ltb-true last_combining c p))
    go false true p q =
        on (row_never (λ l. omega (arith, ltb-false last_combining c p))) (row_here 10 0 0 _ (leb-true (records d) i q))
    go false false p q =
        on (row_never (λ l. omega (arith, ltb-false last_combining c p)))
        (no-refusal (row_never (λ l. omega (arith, leb-false (records d) i q))) given_never)

answered-refused : (P : Refusals) (q : Result ℕ Refusal) (v : Decision) → Refuses q P → Refuses (answered q v) P
answered-refused P (Ok n) v h =
    no-refusal (counted_never h) (λ f e. let z : ◌≡◌ {A = ℕ} 0 1 = cc in omega arith)
answered-refused P (Err g) v h = λ f. (λ e. (h f).0 (cc), λ p. let e : Err g ≡ Err f = (h f).1 p in cc)

pub decide-refused : (d house recipient : List ℕ) (c i : ℕ) → Refuses (decide_of d house recipient c i)
    (in_elements d before in_rules d 1 house before in_rules d 2 recipient before no_combining c before no_element d i)
unfolding decide_of asked_of
decide-refused d house recipient c i =
    answered-refused _ (asked_of d house recipient c i) (decision (combining_of c) (elements_of d) i (both_rules house recipient))
    (then (read_of d) _ (refused-row d) (λ n e.
    then (read_rules_of d 1 house) _ (refused-rules d house 1) (λ n e.
    then (read_rules_of d 2 recipient) _ (refused-rules d recipient 2) (λ n e. numbers_refused d c i))))

-- ---- folding and judging, by any way to answer and after any refusals

module _ (A : Answers) (P : Refusals) (x : Result ℕ Refusal) (d : List ℕ) where
  folded-refused : Refuses x P → (reply : Result ℕ Refusal) (new : List ℕ) → FoldedAfter A x d reply new → Refuses reply P
  folded-refused = after-only d (Folds A d) (λ r new f b e. given_never f (sym b.counted ∙ e)) x

  judged-refused : Refuses x P → (j : Result Report Refusal) → JudgedAfter A x d j → Refuses j P
  judged-refused h j b = after-only tt (Reports A d) reports x h j tt b
    where
      reports : (j : Result Report Refusal) (b : Unit {0}) (f : Refusal) → Reports A d j b → j ≡ Err f → ⊥
      reports (Ok r) b f h e = let z : ◌≡◌ {A = ℕ} 0 1 = cc in omega arith
      reports (Err g) b f h e = h

folded-unchanged : (A : Answers) (x : Result ℕ Refusal) (d : List ℕ) (reply : Result ℕ Refusal) (new : List ℕ) (f : Refusal) → FoldedAfter A x d reply new → reply ≡ Err f → new ≡ d
folded-unchanged A x d = after-unchanged d (Folds A d) (λ r new f b e. absurd (given_never f (sym b.counted ∙ e))) x

pub fold-refused : (d : List ℕ) (reply : Result ℕ Refusal) (new : List ℕ) → Folded d reply new → Refuses reply (in_elements d)
fold-refused d = folded-refused (walked first) (in_elements d) (read_of d) d (refused-row d)

pub fold-unchanged : (d : List ℕ) (reply : Result ℕ Refusal) (new : List ℕ) (f : Refusal) → Folded d reply new → reply ≡ Err f → new ≡ d
fold-unchanged d = folded-unchanged (walked first) (read_of d) d

pub judge-refused : (d : List ℕ) (j : Result Report Refusal) → Judged d j → Refuses j (in_elements d)
judge-refused d = judged-refused (walked first) (in_elements d) (read_of d) d (refused-row d)

combining-refused : (c n : ℕ) → Refuses (cond (ltb last_combining c) (refusal 11 0 0) (Ok n)) (no_combining c)
combining-refused c n = go (ltb last_combining c) refl
  where
    go : (t : Bool) → ltb last_combining c ≡ t → Refuses (cond t (refusal 11 0 0) (Ok n)) (no_combining c)
    go true e = row_here 11 0 0 _ (ltb-true last_combining c e)
    go false e = no-refusal (row_never (λ l. omega (arith, ltb-false last_combining c e))) given_never

module _ (c : ℕ) (d : List ℕ) where
  asked-refused : Refuses (asked_for d c) (in_elements d before no_combining c)
  unfolding asked_for
  asked-refused = then (read_of d) _ (refused-row d) (λ n e. combining-refused c (records d))

  pub fold_for_refused : (reply : Result ℕ Refusal) (new : List ℕ) → FoldedFor c d reply new → Refuses reply (in_elements d before no_combining c)
  fold_for_refused = folded-refused (by_rules (combining_of c)) (in_elements d before no_combining c) (asked_for d c) d asked-refused

  pub fold_for_unchanged : (reply : Result ℕ Refusal) (new : List ℕ) (f : Refusal) → FoldedFor c d reply new → reply ≡ Err f → new ≡ d
  fold_for_unchanged = folded-unchanged (by_rules (combining_of c)) (asked_for d c) d

  pub judge_for_refused : (j : Result Report Refusal) → JudgedFor c d j → Refuses j (in_elements d before no_combining c)
  judge_for_refused = judged-refused (by_rules (combining_of c)) (in_elements d before no_combining c) (asked_for d c) d asked-refused

-- ---- the view

module _ (d area : List ℕ) (reply : Result ℕ Refusal) (new : List ℕ) where
  viewed_refused : Viewed d area reply new → Refuses reply (too_short_for_view d area)
  viewed_refused v f = (to, from)
    where
      room : (reply ≡ Err f) ↔ too_short (length v.shown) area f
      room = rw v.replied (room-refused width (length v.shown) area f)

      to : reply ≡ Err f → too_short_for_view d area f
      to e = ((room.0 e).0, (v.shown, v.view, (room.0 e).1))

      from : too_short_for_view d area f → reply ≡ Err f
      from q = room.1 (q.0, rw (keeps_unique v.view q.1.1) q.1.2)

module _ (d area : List ℕ) (reply : Result ℕ Refusal) (new : List ℕ) where
  pub view-refused : Views d area reply new → Refuses reply (in_elements d before too_short_for_view d area)
  view-refused = after-refuses area (Viewed d area) (viewed_refused d area) (read_of d) (refused-row d) reply new

  pub view-unchanged : (f : Refusal) → Views d area reply new → reply ≡ Err f → new ≡ area
  view-unchanged f = after-unchanged area (Viewed d area) (λ r n f v e. v.written ∙ rw e) (read_of d) reply new f
