-- Each combining has its number, 0 is the base's folder and judge, and permit overrides is deny overrides with permit and deny exchanged. Assumes nothing.
use Rattle.std.proofs.Common.{◌≡◌, ℕ, ◌↔◌, List, length, sym, ◌∙◌, subst}
use Rattle.dossier.specs.Elements.{Element}
use Rattle.dossier.specs.declared.elements.Mark.{Mark}
use Rattle.dossier.specs.declared.elements.Decision.{Decision}
use Rattle.rules.specs.declared.kinds.Combining.TheVariants.{DenyOverrides as deny_overrides, PermitOverrides as permit_overrides}
use Rattle.rules.specs.Exchange.{exchanged_decision, exchanged_elements}
use Rattle.rules.proofs.Combinings.{of_number, number_of}
use Rattle.rules.proofs.Exchange.{exchanged_twice, decisions-exchanged}
use Rattle.listing.proofs.Exchanging.{count-exchanged}
use Rattle.least.specs.Least.{by_rules}
use Rattle.least.specs.Judging.{Longer, Wrong}
use Rattle.least.specs.declared.Verdict.TheVariants as verdict
use Rattle.least.proofs.Matching.{Matches, matches-back, least_as, fold_as, holds_as}
use Rattle.least.proofs.Exchange.{exchange}
use Rattle.least.proofs.Replies.{folded_as_0, folded_of_0, judged_as_0, judged_of_0}
use Rattle.demands.specs.Combinings.{Combinings}

module _ (es : List Element) (ms : List Mark) where
  back : Matches (by_rules permit_overrides) (by_rules deny_overrides) exchanged_decision es (exchanged_elements es)
  back = matches-back (exchange es)

  longer-exchanged : (n : ℕ) → Longer (by_rules permit_overrides) es ms n ↔ Longer (by_rules deny_overrides) (exchanged_elements es) ms n
  longer-exchanged n = (
    λ h. holds_as back ms (h.right.each ∙ back.long) (verdict.Longer n) h,
    λ h. holds_as (exchange es) ms (h.right.each ∙ (exchange es).long) (verdict.Longer n) h,
  )

  wrong-exchanged : length ms ≡ length es → (i : ℕ) (a : Decision)
      → Wrong (by_rules permit_overrides) es ms i (exchanged_decision a) ↔ Wrong (by_rules deny_overrides) (exchanged_elements es) ms i a
  wrong-exchanged q i a = (
    λ h. subst (Wrong (by_rules deny_overrides) (exchanged_elements es) ms i) (exchanged_twice a) (holds_as back ms (q ∙ back.long) (verdict.Wrong i (exchanged_decision a)) h),
    λ h. holds_as (exchange es) ms q (verdict.Wrong i a) h,
  )

pub combinings : Combinings
combinings = record {
  numbered = of_number;
  fold-by = λ n few d reply new. rw (number_of n few) (λ f. f, λ f. f);
  judge-by = λ n few d j. rw (number_of n few) (λ f. f, λ f. f);
  fold_0 = λ d reply new. (folded_of_0 d reply new, folded_as_0 d reply new);
  judge_0 = λ d j. (judged_of_0 d j, judged_as_0 d j);
  answers = decisions-exchanged;
  fold = λ es ms. (fold_as (matches-back (exchange es)) ms, fold_as (exchange es) ms);
  counts = λ es ms. sym (count-exchanged es ms);
  least = λ es ms. (least_as (matches-back (exchange es)) ms, least_as (exchange es) ms);
  longer = longer-exchanged;
  wrong = wrong-exchanged;
}
