-- What each public function promises fixes its reply and what each lent buffer then holds. Assumes nothing.
use Rattle.std.proofs.Common.{◌≡◌, ℕ, ◌<◌, List, [], length, get_or, sym, refl, ap, ◌∙◌, zero-add, arith, ext_get_or, Result, Ok, Err}
use native.Mathlib.Decide.{ℕ_discrete}
use mathlib.Core.List.{List-discrete}
use Rattle.dossier.specs.Elements.{marks_of, mark_of}
use Rattle.dossier.specs.declared.elements.Mark.{Mark}
use Rattle.dossier.specs.declared.elements.Mark.TheVariants.{N as mn}
use Rattle.dossier.specs.Bytes.{records, run, elements_of, joined, with_marks}
use Rattle.dossier.specs.Replies.{refusal, and_then, afterwards, room_for, fronted}
use Rattle.dossier.specs.Reading.{read_of, Sound}
use Rattle.dossier.proofs.Runs.{run_length, run_at}
use Rattle.dossier.proofs.RoundTrip.{mark-back}
use Rattle.dossier.proofs.Sounds.{counted-sound}
use Rattle.rules.specs.Rules.{Rule, rules_of, list_bytes}
use Rattle.rules.specs.ReadingRules.{read_rules_of}
use Rattle.rules.specs.Combining.{combining_of, decision}
use Rattle.rules.specs.declared.kinds.Combining.{Combining}
use Rattle.rules.specs.declared.kinds.Combining.TheVariants.{FirstApplicable as first_applicable}
use Rattle.rules.proofs.RoundTrip.{rules-back}
use Rattle.marks.specs.Marks.{first}
use Rattle.marks.specs.Walking.{walked}
use Rattle.marks.specs.Stepping.{refused_step, take_of, Leaves, Steps}
use Rattle.marks.specs.declared.Walk.{Walk}
use Rattle.marks.specs.declared.Stepped.{Stepped}
use Rattle.marks.proofs.Forests.{walk-length}
use Rattle.marks.proofs.Determined.{steps_by, leaves?, steps_one}
use Rattle.listing.specs.Listing.{list_of}
use Rattle.listing.specs.Back.{Gives, marked, none, Back}
use Rattle.listing.proofs.Costs.{elements-length, marks-length}
use Rattle.listing.proofs.Injective.{told, list-told}
use Rattle.listing.proofs.Unique.{back_one}
use Rattle.least.specs.Least.{Answers, by_rules, Fold, count}
use Rattle.least.specs.Folding.{FoldedAfter, Folded, asked_for, FoldedFor}
use Rattle.least.specs.Judging.{JudgedAfter, Judged, JudgedFor}
use Rattle.least.specs.Prices.{wrong_cost}
use Rattle.least.specs.Inner.{gateway_of}
use Rattle.least.proofs.Folds.{fold}
use Rattle.least.proofs.Verdicts.{verdict_of}
use Rattle.least.proofs.Numbers.{judges-by}
use Rattle.least.proofs.Matching.{matches-back, fold_as}
use Rattle.least.proofs.Gateways.{first_matches}
use Rattle.least.proofs.Replies.{asked-sound}
use Rattle.least.proofs.Whole.{elements_for, fold-listed}
use Rattle.least.proofs.Determined.{folded_after, judged-after}
use Rattle.view.specs.View.{Views}
use Rattle.view.specs.Inner.{shown_of}
use Rattle.view.proofs.Belongs.{shown-view}
use Rattle.view.proofs.Unique.{views_unique}
use Rattle.demands.specs.Definite.{ExactlyOne, OneReply, Definite}
use Rattle.dossier.specs.declared.elements.Decision.{Decision}
use Rattle.dossier.specs.declared.Refusal.{Refusal}
use Rattle.least.specs.declared.Report.{Report}

-- ---- promises that are equations

-- two replies, or two contents of a buffer, that are what a function of the inputs says are equal
pub by_equation : {A : Type 0} {it a b : A} → a ≡ it → b ≡ it → a ≡ b
by_equation p q = p ∙ sym q

-- ---- one reply with one content

module _ {R B : Type 0} (Allowed : R → B → Type 0) (one : (r q : R) (a b : B) → Allowed r a → Allowed q b → (r ≡ q) × (a ≡ b)) where
  one-reply : (r : R) (a : B) → Allowed r a → OneReply Allowed
  one-reply r a h = record {
    it = (r, a);
    allowed = h;
    only = λ p g. (let e = one p.0 r p.1 a g h in λ i. (e.0 i, e.1 i));
  }

-- ---- the step

step-only : (w : Walk) (r : List ℕ) → ExactlyOne (Steps w r)
step-only w r = go (leaves? w)
  where
    by : (s : Stepped) → Steps w r s → ExactlyOne (Steps w r)
    by s h = record { it = s; allowed = h; only = λ q g. steps_one w r q s g h }

    go : Dec (Leaves w) → ExactlyOne (Steps w r)
    go (yes left) = by (take_of w r) (steps_by w r (take_of w r) (λ l. refl) (λ n. absurd (n left)))
    go (no never) = by (refused_step w 17 0) (steps_by w r (refused_step w 17 0) (λ l. absurd (never l)) (λ n. refl))

in_place_only : (w : Walk) (r : List ℕ) → OneReply (λ (reply : Result Decision Refusal) (new : Walk). Steps w r (record { walk = new; answer = reply }))
in_place_only w r =
    let s = step-only w r in
    one-reply (λ (reply : Result Decision Refusal) (new : Walk). Steps w r (record { walk = new; answer = reply }))
    (λ a b v u g h. (let e = steps_one w r _ _ g h in (ap (λ (x : Stepped). x.answer) e, ap (λ (x : Stepped). x.walk) e)))
    s.it.answer s.it.walk s.allowed

-- ---- reading back: whether any marks give the rules is decided

rules? : (a b : List Rule) → Dec (a ≡ b)
rules? a b = go (List-discrete ℕ_discrete (list_bytes a) (list_bytes b))
  where
    go : Dec (list_bytes a ≡ list_bytes b) → Dec (a ≡ b)
    go (yes e) = yes (sym (rules-back a) ∙ ap rules_of e ∙ rules-back b)
    go (no n) = no (λ e. n (ap {B = List ℕ} (λ l. list_bytes l) e))

-- the marks that the rules tell; any that give them are these
module _ (d : List ℕ) (rs : List Rule) where
  tells : List Mark
  tells = run (λ j. mark_of (told j rs)) 0 (records d)

  tells-length : length tells ≡ records d
  unfolding tells
  tells-length = run_length (λ j. mark_of (told j rs)) 0 (records d)

  tells_all : (ms : List Mark) → Gives d ms rs → tells ≡ ms
  unfolding tells
  tells_all ms g = ext_get_or mn tells ms (tells-length ∙ sym g.each) (λ j l. at j (omega (arith, tells-length)))
    where
      each : length ms ≡ length (elements_of d)
      each = g.each ∙ sym (elements-length d)

      at : (j : ℕ) → j < records d → get_or tells j mn ≡ get_or ms j mn
      at j l =
          run_at (λ j. mark_of (told j rs)) 0 (records d) j mn l
          ∙ ap (λ (k : ℕ). mark_of (told k rs)) (zero-add j)
          ∙ ap (λ (l : List Rule). mark_of (told j l)) (sym g.lists)
          ∙ ap mark_of (list-told (elements_of d) ms each j)
          ∙ mark-back (get_or ms j mn)

back-only : (d rs : List ℕ) → OneReply (Back d rs)
back-only d rs = go (and_then (read_of d) (read_rules_of d 1 rs)) refl
  where
    by : (reply : Result ℕ Refusal) (new : List ℕ) → Back d rs reply new → OneReply (Back d rs)
    by = one-reply (Back d rs) (back_one d rs)

    go : (x : Result ℕ Refusal) → and_then (read_of d) (read_rules_of d 1 rs) ≡ x → OneReply (Back d rs)
    go (Err f) e = by (Err f) d (rw e (refl, refl))
    go (Ok n) e = told? (rules? (list_of (elements_of d) (tells d (rules_of rs))) (rules_of rs))
      where
        told? : Dec (list_of (elements_of d) (tells d (rules_of rs)) ≡ rules_of rs) → OneReply (Back d rs)
        told? (yes l) =
            by (Ok (records d)) (with_marks d 0 (tells d (rules_of rs)))
            (rw e (marked (tells d (rules_of rs)) (record { each = tells-length d (rules_of rs); lists = l })))
        told? (no n) = by (refusal 9 1 0) d (rw e (none (λ ms g. n (ap (list_of (elements_of d)) (tells_all d (rules_of rs) ms g) ∙ g.lists))))

-- ---- the folder and the judge

-- by any way to answer that has a folder's marking of every sound dossier
module _ (A : Answers) (x : Result ℕ Refusal) (d : List ℕ) (sound : (n : ℕ) → x ≡ Ok n → Sound d) (marks : List Mark) (folds : Sound d → Fold A (elements_of d) marks) where
  fold-by : OneReply (FoldedAfter A x d)
  fold-by = go x refl
    where
      by : (reply : Result ℕ Refusal) (new : List ℕ) → FoldedAfter A x d reply new → OneReply (FoldedAfter A x d)
      by = one-reply (FoldedAfter A x d) (folded_after A x d)

      go : (y : Result ℕ Refusal) → x ≡ y → OneReply (FoldedAfter A x d)
      go (Err f) e = by (Err f) d (rw e (refl, refl))
      go (Ok n) e =
          by (Ok (count (elements_of d) marks)) (with_marks d 0 marks)
          (rw e (record { marks = marks; folds = folds (sound n e); written = refl; counted = refl }))

  judge-by : length (A (elements_of d) (marks_of (elements_of d))) ≡ length (elements_of d) → ExactlyOne (JudgedAfter A x d)
  judge-by long = go x refl
    where
      by : (j : Result Report Refusal) → JudgedAfter A x d j → ExactlyOne (JudgedAfter A x d)
      by j h = record { it = j; allowed = h; only = λ q g. judged-after A x d q j g h }

      go : (y : Result ℕ Refusal) → x ≡ y → ExactlyOne (JudgedAfter A x d)
      go (Err f) e = by (Err f) (rw e (refl, refl))
      go (Ok n) e =
          let es = elements_of d in
          let v = verdict_of A es marks (folds (sound n e)).least (marks_of es) (marks-length d) long in
          by (Ok (record { count = count es (marks_of es); verdict = v.0 })) (rw e (judges-by A es (marks_of es) _ refl v.1))

module _ (c : Combining) (d : List ℕ) where
  -- the folder's marks under this combining
  folded : List Mark
  folded = fold (gateway_of c) wrong_cost (elements_for c d)

  folded-listed : Sound d → Fold (by_rules c) (elements_of d) folded
  unfolding folded
  folded-listed s = fold-listed c d s

module _ (number : ℕ) (d : List ℕ) where
  abbrev c : Combining
  c = combining_of number

  fold_for_only : OneReply (FoldedFor number d)
  fold_for_only = fold-by (by_rules c) (asked_for d number) d (asked-sound d number) (folded c d) (folded-listed c d)

  judge_for_only : ExactlyOne (JudgedFor number d)
  judge_for_only =
      judge-by (by_rules c) (asked_for d number) d (asked-sound d number) (folded c d) (folded-listed c d)
      (run_length (λ i. decision c (elements_of d) i (list_of (elements_of d) (marks_of (elements_of d)))) 0 (length (elements_of d)))

module _ (d : List ℕ) where
  folded-walked : Sound d → Fold (walked first) (elements_of d) (folded first_applicable d)
  folded-walked s = fold_as (matches-back (first_matches (elements_of d) s.order)) (folded first_applicable d) (folded-listed first_applicable d s)

  fold-only : OneReply (Folded d)
  fold-only = fold-by (walked first) (read_of d) d (counted-sound d) (folded first_applicable d) folded-walked

  judge-only : ExactlyOne (Judged d)
  judge-only =
      judge-by (walked first) (read_of d) d (counted-sound d) (folded first_applicable d) folded-walked
      (walk-length first [] (elements_of d) (marks_of (elements_of d)) (marks-length d))

-- ---- the view

view-only : (d area : List ℕ) → OneReply (Views d area)
view-only d area = go (read_of d) refl
  where
    by : (reply : Result ℕ Refusal) (new : List ℕ) → Views d area reply new → OneReply (Views d area)
    by = one-reply (Views d area) (views_unique d area)

    go : (x : Result ℕ Refusal) → read_of d ≡ x → OneReply (Views d area)
    go (Err f) e = by (Err f) area (rw e (refl, refl))
    go (Ok n) e =
        let reply = room_for (length (shown_of d)) area in
        by reply (afterwards reply area (fronted area (joined (λ r. r) (shown_of d))))
        (rw e (record { shown = shown_of d; view = shown-view d (counted-sound d n e); replied = refl; written = refl }))

-- ---- all of them

pub definite : Definite
definite = record {
  step = step-only;
  step_in_place = in_place_only;
  read_back = back-only;
  fold = fold-only;
  judge = judge-only;
  fold_for = fold_for_only;
  judge_for = judge_for_only;
  view = view-only;
}
