-- The twelve cases hold: one test, which computes a case by the folder's and the judge's closed functions, and what it finds is a proof. Assumes nothing.
use Rattle.std.proofs.Common.{◌≡◌, ℕ, suc, Bool, true, false, eqb, List, [], ◌∷◌, length, sym, refl, ap, ◌∙◌, subst, arith, eqb-true, Result, Ok, Err}
use mathlib.Core.Option.{Option, none, some, bind}
use native.Mathlib.Decide.{dec_le}
use Rattle.dossier.specs.Elements.{Element, mark_number, mark_of, decision_number, decision_of}
use Rattle.dossier.specs.declared.elements.Mark.{Mark}
use Rattle.dossier.specs.Bytes.{depth_at, dossier_bytes}
use Rattle.dossier.specs.Order.{Ordered}
use Rattle.dossier.specs.Replies.{refusal}
use Rattle.dossier.specs.Reading.{low_after, high_after, fault_of, fault_at, first_fault, read_of}
use Rattle.dossier.specs.Forest.{parse, front_f, back_f}
use Rattle.dossier.proofs.RoundTrip.{mark-back, elements-back}
use Rattle.dossier.proofs.Sounds.{counted-sound}
use Rattle.marks.specs.Marks.{first}
use Rattle.marks.specs.Walking.{walked}
use Rattle.marks.proofs.Laws.{decision_number_lem}
use Rattle.marks.proofs.Forests.{walk-length}
use Rattle.listing.specs.Listing.{list_of, branches, branches_rules, children_rules, others}
use Rattle.least.specs.Least.{count, Fold}
use Rattle.least.specs.Judging.{Holds}
use Rattle.least.specs.Prices.{better, choose, sums}
use Rattle.least.specs.declared.Verdict.{Verdict}
use Rattle.least.specs.declared.Verdict.TheVariants.{Least, Longer, Wrong}
use Rattle.least.proofs.Minimal.{greedy}
use Rattle.least.proofs.Folds.{fold, fold_is, first_plain}
use Rattle.least.proofs.Verdicts.{verdict_of, differ, eq_decision}
use Rattle.demands.specs.Twelve.{Case, folds, judged, refused, Correct, All, table}
use Rattle.dossier.specs.declared.Refusal.{Refusal}

-- ---- are two of a kind the same

unfoldable same : (a b : ℕ) → Option (a ≡ b)
same a b = go (eqb a b) refl
  where
    go : (t : Bool) → eqb a b ≡ t → Option (a ≡ b)
    go true e = some (eqb-true a b e)
    go false e = none

-- of what has numbers
unfoldable same_by : {A : Type 0} (number : A → ℕ) (of : ℕ → A) → ((a : A) → of (number a) ≡ a) → (a b : A) → Option (a ≡ b)
unfolding same
same_by number of back a b = bind (same (number a) (number b)) (λ e. some (sym (back a) ∙ ap of e ∙ back b))

unfoldable same-marks : (a b : List Mark) → Option (a ≡ b)
unfolding same_by
same-marks [] [] = some refl
same-marks [] (y ∷ b) = none
same-marks (x ∷ a) [] = none
same-marks (x ∷ a) (y ∷ b) = bind (same_by mark_number mark_of mark-back x y) (λ p. bind (same-marks a b) (λ q. some (cc)))

unfoldable same_verdict : (v w : Verdict) → Option (v ≡ w)
unfolding same same_by
same_verdict Least Least = some refl
same_verdict Least (Longer n) = none
same_verdict Least (Wrong i a) = none
same_verdict (Longer n) Least = none
same_verdict (Longer n) (Longer m) = bind (same n m) (λ e. some (ap Longer e))
same_verdict (Longer n) (Wrong i a) = none
same_verdict (Wrong i a) Least = none
same_verdict (Wrong i a) (Longer n) = none
same_verdict (Wrong i a) (Wrong j b) = bind (same i j) (λ p. bind (same_by decision_number decision_of decision_number_lem a b) (λ q. some (cc)))

-- ---- the test of a case

-- one more than the number of elements
abbrev W : List Element → ℕ
W es = suc (length es)

folded : (es : List Element) → Ordered es → Fold (walked first) es (fold first (W es) es)
folded es o = fold_is first (W es) first_plain es o (omega arith)

-- elements that the reader accepts are in order
unfoldable ordered : (es : List Element) → Option (Ordered es)
ordered es = go (read_of (dossier_bytes es)) refl
  where
    go : (reply : Result ℕ Refusal) → read_of (dossier_bytes es) ≡ reply → Option (Ordered es)
    go (Ok n) e = some (subst Ordered (elements-back es) (counted-sound (dossier_bytes es) n e).order)
    go (Err f) e = none

unfoldable refusal_is : (reply : Result ℕ Refusal) (number position : ℕ) → Option (reply ≡ refusal number 0 position)
unfolding same
refusal_is (Ok n) number position = none
refusal_is (Err f) number position =
    bind (same f.number number) (λ p. bind (same f.list 0) (λ q. bind (same f.position position) (λ r.
    some (λ i. Err (record { number = p i; list = q i; position = r i })))))

unfoldable tested : (c : Case) → Option (Correct c)
unfolding same same-marks same_verdict ordered refusal_is
tested (folds es ms n) =
    bind (ordered es) (λ o. bind (same-marks (fold first (W es) es) ms) (λ e. bind (same (count es ms) n) (λ c.
    some (subst (Fold (walked first) es) e (folded es o), c))))
tested (judged es ms v) =
    bind (ordered es) (λ o. bind (same (length ms) (length es)) (λ q.
    let w = verdict_of (walked first) es (fold first (W es) es) (folded es o).least ms q (walk-length first [] es ms q) in
    bind (same_verdict w.0 v) (λ e. some (subst (Holds (walked first) es ms) e w.1))))
tested (refused es number position) = refusal_is (read_of (dossier_bytes es)) number position

-- ---- the table

unfoldable tested-all : (cs : List Case) → Option (All cs)
unfolding tested
tested-all [] = some tt
tested-all (c ∷ cs) = bind (tested c) (λ h. bind (tested-all cs) (λ t. some (h, t)))

abbrev found : {A : Type 0} → Option A → Bool
found (some a) = true
found none = false

-- what a test finds
taken : {A : Type 0} (o : Option A) → found o ≡ true → A
taken (some a) e = a
taken none e = let z : ◌≡◌ {A = ℕ} 0 1 = cc in let y : ⊥ = omega arith in absurd y

pub twelve : All table
unfolding tested-all bind read_of first_fault fault_at fault_of low_after high_after depth_at parse greedy choose front_f back_f better sums verdict_of differ eq_decision dec_le list_of branches branches_rules children_rules others
twelve = taken (tested-all table) refl
