-- The numbers of a report say of marks exactly what holds of them. Assumes nothing.
use Rattle.std.proofs.Common.{◌≡◌, ℕ, ◌↔◌, List, ◌∷◌, get_or, sym, refl, ap, ◌∙◌, subst, ap₂, arith}
use mathlib.Core.List.{tail-eq_of_cons-eq}
use Rattle.dossier.specs.Elements.{Element, decision_number, decision_of}
use Rattle.dossier.specs.declared.elements.Mark.{Mark}
use Rattle.dossier.specs.declared.elements.Decision.{Decision}
use Rattle.marks.proofs.Laws.{decision_number_lem}
use Rattle.least.specs.Least.{Answers, count}
use Rattle.least.specs.Judging.{Holds, verdict_numbers, report_numbers, Judges}
use Rattle.least.specs.declared.Report.{Report}
use Rattle.least.specs.declared.Verdict.{Verdict}
use Rattle.least.specs.declared.Verdict.TheVariants as verdict
use Rattle.least.proofs.Verdicts.{verdict-unique}

-- ---- numbers tell verdicts apart

decision-one : (a b : Decision) → decision_number a ≡ decision_number b → a ≡ b
decision-one a b e = sym (decision_number_lem a) ∙ ap decision_of e ∙ decision_number_lem b

at : (k : ℕ) (v w : Verdict) → verdict_numbers v ≡ verdict_numbers w → get_or (verdict_numbers v) k 0 ≡ get_or (verdict_numbers w) k 0
at k v w e = ap (λ (l : List ℕ). get_or l k 0) e

verdict_one : (v w : Verdict) → verdict_numbers v ≡ verdict_numbers w → v ≡ w
verdict_one verdict.Least verdict.Least e = refl
verdict_one verdict.Least (verdict.Longer n) e = absurd (omega (arith, at 0 verdict.Least (verdict.Longer n) e))
verdict_one verdict.Least (verdict.Wrong j b) e = absurd (omega (arith, at 0 verdict.Least (verdict.Wrong j b) e))
verdict_one (verdict.Longer n) verdict.Least e = absurd (omega (arith, at 0 (verdict.Longer n) verdict.Least e))
verdict_one (verdict.Longer n) (verdict.Longer m) e = ap verdict.Longer (at 1 (verdict.Longer n) (verdict.Longer m) e)
verdict_one (verdict.Longer n) (verdict.Wrong j b) e = absurd (omega (arith, at 0 (verdict.Longer n) (verdict.Wrong j b) e))
verdict_one (verdict.Wrong i a) verdict.Least e = absurd (omega (arith, at 0 (verdict.Wrong i a) verdict.Least e))
verdict_one (verdict.Wrong i a) (verdict.Longer m) e = absurd (omega (arith, at 0 (verdict.Wrong i a) (verdict.Longer m) e))
verdict_one (verdict.Wrong i a) (verdict.Wrong j b) e =
    ap₂ verdict.Wrong (at 1 (verdict.Wrong i a) (verdict.Wrong j b) e) (decision-one a b (at 2 (verdict.Wrong i a) (verdict.Wrong j b) e))

-- ---- a report whose verdict holds

module _ (A : Answers) (es : List Element) (ms : List Mark) (r : Report) (counted : r.count ≡ count es ms) (holds : Holds A es ms r.verdict) where
  exactly : (w : Verdict) → (report_numbers r ≡ count es ms ∷ verdict_numbers w) ↔ Holds A es ms w
  exactly w = (
    λ e. subst (Holds A es ms) (verdict_one r.verdict w (tail-eq_of_cons-eq e)) holds,
    λ h. ap₂ {C = List ℕ} (λ n l. n ∷ l) counted (ap verdict_numbers (verdict-unique A es ms r.verdict w holds h)),
  )

  pub judges-by : Judges A es ms r
  judges-by = record {
    counted = counted;
    holds = holds;
    numbered = record {
      least = exactly verdict.Least;
      longer = λ n. exactly (verdict.Longer n);
      wrong = λ i a. exactly (verdict.Wrong i a);
    };
  }
