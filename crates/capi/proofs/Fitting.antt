-- Every reply that a promise allows fits its number, so that packing loses nothing. Assumes nothing.
use Rattle.std.proofs.Common.{◌≡◌, ℕ, ◌*◌, ◌<◌, ◌≤◌, Bool, true, false, cond, eqb, ltb, leb, List, length, refl, subst, arith, leb-false, Result, Ok, Err}
use Rattle.dossier.specs.Limits.{width, most_elements}
use Rattle.dossier.specs.Elements.{marks_of}
use Rattle.dossier.specs.declared.elements.Mark.{Mark}
use Rattle.dossier.specs.Bytes.{records, elements_of}
use Rattle.dossier.specs.Replies.{refusal, and_then, room_for, room_by}
use Rattle.dossier.specs.Reading.{Fields, fields_at, read_of, Sound}
use Rattle.dossier.specs.Table.{Row, row_1, row_2, row_3, row_4, row_5, row_6}
use Rattle.dossier.specs.declared.elements.Decision.{Decision}
use Rattle.dossier.specs.declared.Refusal.{Refusal}
use Rattle.dossier.proofs.Orders.{after-all}
use Rattle.dossier.proofs.Sounds.{counted-sound, counted}
use Rattle.dossier.proofs.Rows.{Fault, nothing, four, five, six, fault, refused-row}
use Rattle.rules.specs.ReadingRules.{read_rules_of}
use Rattle.rules.specs.RuleTable as rule
use Rattle.rules.specs.Combining.{last_combining, combining_of}
use Rattle.rules.specs.declared.kinds.Combining.{Combining}
use Rattle.rules.specs.declared.kinds.Combining.TheVariants.{FirstApplicable as first_applicable}
use Rattle.rules.specs.Deciding.{numbers_of, asked_of, answered, decide_of}
use Rattle.rules.proofs.ListSounds as rules
use Rattle.marks.specs.Stepping.{fields_step, refused_step, accepted_step, take_of, Leaves, Steps}
use Rattle.marks.specs.declared.Walk.{Walk}
use Rattle.marks.specs.declared.Stepped.{Stepped}
use Rattle.marks.proofs.Takes.{fault_next, taken_step}
use Rattle.marks.proofs.Determined.{leaves?}
use Rattle.listing.specs.Area.{listed_of, list_reply}
use Rattle.listing.specs.Back.{Told, marked, none, Back}
use Rattle.listing.proofs.Costs.{elements-length, listed-most}
use Rattle.marks.specs.Marks.{first}
use Rattle.marks.specs.Walking.{walked}
use Rattle.least.specs.Least.{Answers, by_rules, count, Least}
use Rattle.least.specs.Folding.{Folds, FoldedAfter, Folded, asked_for, FoldedFor}
use Rattle.least.specs.Judging.{Holds, Reports, JudgedAfter, Judged, JudgedFor}
use Rattle.least.proofs.Matching.{least_as}
use Rattle.least.proofs.Gateways.{first_matches}
use Rattle.least.proofs.Replies.{asked-sound}
use Rattle.least.proofs.Whole.{count-least, least_bounds}
use Rattle.least.specs.declared.Verdict.{Verdict}
use Rattle.least.specs.declared.Verdict.TheVariants as verdict
use Rattle.view.specs.View.{Viewed, Views}
use Rattle.view.proofs.Few.{view-few}
use Rattle.capi.proofs.Told.{SmallRefusal, FitsReply, FitsAnswer, FitsVerdict, FitsJudgement}
use Rattle.least.specs.declared.Report.{Report}

-- ---- reading

small : {n l p : ℕ} → n < 256 → l < 256 → p < 4294967296 → SmallRefusal (record { number = n; list = l; position = p })
small n l p = record { number = n; list = l; position = p }

row_small : (d : List ℕ) {n l p : ℕ} → Row d n l p → SmallRefusal (record { number = n; list = l; position = p })
row_small d (row_1 h) = small (omega arith) (omega arith) (omega arith)
row_small d (row_2 g h) = small (omega arith) (omega arith) (omega arith)
row_small d (row_3 f g h) = small (omega arith) (omega arith) (omega arith)
row_small d (row_4 i r f o) = small (omega arith) (omega arith) (omega arith)
row_small d (row_5 i r t) = small (omega arith) (omega arith) (omega arith)
row_small d (row_6 i r f o b) = small (omega arith) (omega arith) (omega arith)

read_fits : (d : List ℕ) → FitsReply (read_of d)
read_fits d = go (read_of d) refl
  where
    go : (r : Result ℕ Refusal) → read_of d ≡ r → FitsReply r
    go (Ok n) e = omega (arith, counted d n e, (counted-sound d n e).few)
    go (Err f) e = row_small d ((refused-row d f).0 e)

rule-small : (d : List ℕ) (list : ℕ) (rs : List ℕ) {f : Refusal} → list < 256 → rule.RuleRow d list rs f → SmallRefusal f
rule-small d list rs l (rule.row_2 h) = small (omega arith) l (omega arith)
rule-small d list rs l (rule.row_3 g h) = small (omega arith) l (omega arith)
rule-small d list rs l (rule.row_7 i g h k n o) = small (omega arith) l (omega arith)

rules-fits : (d : List ℕ) (list : ℕ) (rs : List ℕ) → list < 256 → FitsReply (read_rules_of d list rs)
rules-fits d list rs l = go (read_rules_of d list rs) refl
  where
    go : (r : Result ℕ Refusal) → read_rules_of d list rs ≡ r → FitsReply r
    go (Ok n) e = let s = (rules.count-sound d rs list n).0 e in omega (arith, s.0.few, s.1)
    go (Err f) e = rule-small d list rs l ((rules.refused-row d rs list f).0 e)

then-fits : (a b : Result ℕ Refusal) → FitsReply a → ((n : ℕ) → a ≡ Ok n → FitsReply b) → FitsReply (and_then a b)
then-fits (Ok n) b s t = t n refl
then-fits (Err f) b s t = s

-- how many elements a dossier has that is read
few : (d : List ℕ) (n : ℕ) → read_of d ≡ Ok n → records d ≤ most_elements
few d n e = omega (arith, (counted-sound d n e).few)

-- ---- deciding

numbers_fits : (n c i : ℕ) → n ≤ most_elements → FitsReply (numbers_of n c i)
unfolding numbers_of
numbers_fits n c i s = go (ltb last_combining c) (leb n i)
  where
    go : (over past : Bool) → FitsReply (cond over (refusal 11 0 0) (cond past (refusal 10 0 0) (Ok n)))
    go true past = small (omega arith) (omega arith) (omega arith)
    go false true = small (omega arith) (omega arith) (omega arith)
    go false false = omega arith

asked-fits : (d house recipient : List ℕ) (c i : ℕ) → FitsReply (asked_of d house recipient c i)
unfolding asked_of
asked-fits d house recipient c i =
    then-fits (read_of d) _ (read_fits d) (λ n e.
    then-fits (read_rules_of d 1 house) _ (rules-fits d 1 house (omega arith)) (λ k f.
    then-fits (read_rules_of d 2 recipient) _ (rules-fits d 2 recipient (omega arith)) (λ m g. numbers_fits (records d) c i (few d n e))))

answered-fits : (r : Result ℕ Refusal) (v : Decision) → FitsReply r → FitsAnswer (answered r v)
answered-fits (Ok n) v s = tt
answered-fits (Err f) v s = s

pub decide-fits : (d house recipient : List ℕ) (c i : ℕ) → FitsAnswer (decide_of d house recipient c i)
unfolding decide_of
decide-fits d house recipient c i = answered-fits (asked_of d house recipient c i) _ (asked-fits d house recipient c i)

-- ---- the walk

fault-small : (taken last : ℕ) (f : Fields) {n : ℕ} → Fault taken last f n → n < 256
fault-small taken last f (nothing g) = omega arith
fault-small taken last f (four g o) = omega arith
fault-small taken last f (five t) = omega arith
fault-small taken last f (six g o b) = omega arith

take-fits : (w : Walk) (r : List ℕ) → FitsAnswer (take_of w r).answer
unfolding take_of fields_step refused_step accepted_step
take-fits w r = go (eqb (length r) width) (leb most_elements w.taken) (eqb (fault_next w r) 0) refl
  where
    go : (whole full good : Bool) → leb most_elements w.taken ≡ full
        → FitsAnswer (cond whole (cond full (refused_step w 3 0) (cond good (taken_step w r) (refused_step w (fault_next w r) w.taken))) (refused_step w 2 0)).answer
    go false full good e = small (omega arith) (omega arith) (omega arith)
    go true true good e = small (omega arith) (omega arith) (omega arith)
    go true false true e = tt
    go true false false e = small (fault-small _ _ _ (fault w.taken w.depth (fields_at r 0))) (omega arith) (omega (arith, leb-false most_elements w.taken e))

pub step_fits : (w : Walk) (r : List ℕ) (s : Stepped) → Steps w r s → FitsAnswer s.answer
unfolding refused_step
step_fits w r s h = go (leaves? w)
  where
    go : Dec (Leaves w) → FitsAnswer s.answer
    go (yes left) = rw (h.takes left) (take-fits w r)
    go (no never) = rw (h.refuses never) (small (omega arith) (omega arith) (omega arith))

-- ---- listing and reading back

room_fits : (n : ℕ) (area : List ℕ) → n < 9223372036854775808 → FitsReply (room_for n area)
unfolding room_by
room_fits n area s = go (ltb (length area) (n * width))
  where
    go : (short : Bool) → FitsReply (cond short (refusal 8 0 0) (Ok n))
    go true = small (omega arith) (omega arith) (omega arith)
    go false = s

pub list-fits : (d area : List ℕ) → FitsReply (list_reply d area)
unfolding list_reply
list-fits d area =
    then-fits (read_of d) _ (read_fits d) (λ n e. room_fits (length (listed_of d)) area (omega (arith, few d n e, listed-most d)))

told-fits : (d rs : List ℕ) {reply : Result ℕ Refusal} {new : List ℕ} → records d ≤ most_elements → Told d rs reply new → FitsReply reply
told-fits d rs s (marked ms g) = omega arith
told-fits d rs s (none h) = small (omega arith) (omega arith) (omega arith)

then-count : (a b : Result ℕ Refusal) (n : ℕ) → and_then a b ≡ Ok n → (k : ℕ) × (a ≡ Ok k)
then-count (Ok k) b n e = (k, refl)
then-count (Err f) b n e = let z : ◌≡◌ {A = ℕ} 0 1 = cc in absurd (omega arith)

pub back_fits : (d rs : List ℕ) (reply : Result ℕ Refusal) (new : List ℕ) → Back d rs reply new → FitsReply reply
back_fits d rs =
    after-all d (Told d rs) FitsReply (and_then (read_of d) (read_rules_of d 1 rs))
    (λ f e. subst FitsReply e (then-fits (read_of d) _ (read_fits d) (λ n e. rules-fits d 1 rs (omega arith))))
    (λ n e r b t. let k = then-count (read_of d) _ n e in told-fits d rs (few d k.0 k.1) t)

-- ---- folding, judging, the view

-- by any way to answer whose least marks list at most a rule for each element
module _ (A : Answers) (d : List ℕ) (x : Result ℕ Refusal) (fits : FitsReply x) (sound : (n : ℕ) → x ≡ Ok n → Sound d)
    (least-few : Sound d → (ms : List Mark) → Least A (elements_of d) ms → count (elements_of d) ms ≤ most_elements) where
  folded_after_fits : (reply : Result ℕ Refusal) (new : List ℕ) → FoldedAfter A x d reply new → FitsReply reply
  folded_after_fits =
      after-all d (Folds A d) FitsReply x (λ f e. subst FitsReply e fits)
      (λ n e r b f. let l = least-few (sound n e) f.marks f.folds.least in rw f.counted (omega arith))

  -- what is judged is the count of the rules that are listed
  verdict_fits : Sound d → (v : Verdict) → Holds A (elements_of d) (marks_of (elements_of d)) v → FitsVerdict v
  unfolding listed_of
  verdict_fits s verdict.Least h = tt
  verdict_fits s (verdict.Longer k) h = omega (arith, s.few, listed-most d, h.excess)
  verdict_fits s (verdict.Wrong i a) h = omega (arith, s.few, elements-length d, h.there)

  reports_fits : Sound d → (j : Result Report Refusal) (b : Unit {0}) → Reports A d j b → FitsJudgement j
  unfolding listed_of
  reports_fits s (Ok q) b h = (omega (arith, s.few, listed-most d, h.counted), verdict_fits s q.verdict h.holds)
  reports_fits s (Err f) b h = absurd h

  judged_after_fits : (j : Result Report Refusal) → JudgedAfter A x d j → FitsJudgement j
  judged_after_fits j =
      after-all tt (Reports A d) FitsJudgement x (λ f e. subst FitsReply e fits) (λ n e. reports_fits (sound n e)) j tt

-- by the listed rules
listed-few : (c : Combining) (d : List ℕ) → Sound d → (ms : List Mark) → Least (by_rules c) (elements_of d) ms → count (elements_of d) ms ≤ most_elements
listed-few c d s ms l = omega (arith, count-least c d s ms l, least_bounds c d s, s.few)

-- and by the walk, as first applicable does
walked-few : (d : List ℕ) → Sound d → (ms : List Mark) → Least (walked first) (elements_of d) ms → count (elements_of d) ms ≤ most_elements
walked-few d s ms l = listed-few first_applicable d s ms (least_as (first_matches (elements_of d) s.order) ms l)

pub folded_fits : (d : List ℕ) (reply : Result ℕ Refusal) (new : List ℕ) → Folded d reply new → FitsReply reply
folded_fits d = folded_after_fits (walked first) d (read_of d) (read_fits d) (counted-sound d) (walked-few d)

pub judged-fits : (d : List ℕ) (j : Result Report Refusal) → Judged d j → FitsJudgement j
judged-fits d = judged_after_fits (walked first) d (read_of d) (read_fits d) (counted-sound d) (walked-few d)

module _ (c : ℕ) (d : List ℕ) where
  asked_for_fits : FitsReply (asked_for d c)
  unfolding asked_for
  asked_for_fits = then-fits (read_of d) _ (read_fits d) (λ n e. go (ltb last_combining c) (few d n e))
    where
      go : (t : Bool) → records d ≤ most_elements → FitsReply (cond t (refusal 11 0 0) (Ok (records d)))
      go true l = small (omega arith) (omega arith) (omega arith)
      go false l = omega arith

  pub folded_for_fits : (reply : Result ℕ Refusal) (new : List ℕ) → FoldedFor c d reply new → FitsReply reply
  folded_for_fits = folded_after_fits (by_rules (combining_of c)) d (asked_for d c) asked_for_fits (asked-sound d c) (listed-few (combining_of c) d)

  pub judged_for_fits : (j : Result Report Refusal) → JudgedFor c d j → FitsJudgement j
  judged_for_fits = judged_after_fits (by_rules (combining_of c)) d (asked_for d c) asked_for_fits (asked-sound d c) (listed-few (combining_of c) d)

pub views_fits : (d area : List ℕ) (reply : Result ℕ Refusal) (new : List ℕ) → Views d area reply new → FitsReply reply
views_fits d area =
    after-all area (Viewed d area) FitsReply (read_of d) (λ f e. subst FitsReply e (read_fits d))
    (λ n e r b v. rw v.replied (room_fits (length v.shown) area (omega (arith, few d n e, view-few d v.view))))
