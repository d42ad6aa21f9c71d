-- The published combining rules, in words about the positions of a rule list. Document 01, "How a decision comes about". Assumes nothing: these are definitions.
use Rattle.std.specs.Prelude.{◌≡◌, ℕ, ◌<◌, List, [], get_or}
use Rattle.std.proofs.Math.Option.{some}
use Rattle.std.proofs.Math.ListN.{get_elem?}
use Rattle.dossier.specs.Elements.{Element}
use Rattle.dossier.specs.declared.elements.Effect.{Effect}
use Rattle.dossier.specs.declared.elements.Effect.TheVariants.{Deny as deny, Permit as permit}
use Rattle.dossier.specs.declared.elements.Decision.{Decision}
use Rattle.dossier.specs.declared.elements.Decision.TheVariants.{Deny, Permit, None}
use Rattle.dossier.specs.Order.{Chain}
use Rattle.rules.specs.Rules.{Rule}
use Rattle.rules.specs.declared.kinds.Reach.{Reach}
use Rattle.rules.specs.declared.kinds.Reach.TheVariants.{Itself as self, All as all}
use Rattle.rules.specs.declared.kinds.Combining.{Combining}
use Rattle.rules.specs.declared.kinds.Combining.TheVariants.{FirstApplicable as first_applicable, DenyOverrides as deny_overrides, PermitOverrides as permit_overrides}
use Rattle.rules.specs.Deciding.{both_rules, both_records}

-- a self rule applies to its target; an all rule to its target and everything below it, from where a chain of parents leads up to the target
abbrev pub Reaches : List Element → Reach → ℕ → ℕ → Type 0
Reaches es self target element = target ≡ element
Reaches es all target element = Chain es target element

-- rule k of the list is there, applies to element i and has effect e
pub record RuleSays (es : List Element) (i : ℕ) (rs : List Rule) (k : ℕ) (e : Effect) : Type 0 where
  pub rule : Rule
  pub stands : get_elem? rs k ≡ some rule
  pub applies : Reaches es rule.reach rule.target i
  pub effect : rule.effect ≡ e

module _ (es : List Element) (i : ℕ) (rs : List Rule) where
  -- some applying rule has effect e, or none has
  abbrev pub Some : Effect → Type 0
  Some e = (k : ℕ) × RuleSays es i rs k e

  abbrev pub NoRule : Effect → Type 0
  NoRule e = (k : ℕ) → RuleSays es i rs k e → ⊥

  -- the first rule that applies has effect e
  abbrev pub FirstRule : Effect → Type 0
  FirstRule e = (k : ℕ) × RuleSays es i rs k e × ((j : ℕ) → j < k → (f : Effect) → RuleSays es i rs j f → ⊥)

  -- the effect of each combining
  abbrev pub Combined : Combining → Effect → Type 0
  -- first applicable: the effect of the first rule that applies
  Combined first_applicable e = FirstRule e
  -- deny overrides: deny if any applying rule denies; else permit if any permits
  Combined deny_overrides deny = Some deny
  Combined deny_overrides permit = NoRule deny × Some permit
  -- permit overrides: the same with the two exchanged
  Combined permit_overrides permit = Some permit
  Combined permit_overrides deny = NoRule permit × Some deny

  -- and none where no rule applies
  abbrev pub Published : Combining → Decision → Type 0
  Published c Deny = Combined c deny
  Published c Permit = Combined c permit
  Published c None = (e : Effect) → NoRule e

-- the deciding rule: the first applying rule whose effect is the answer, as its bytes stand in whichever list
pub record Deciding (es : List Element) (i : ℕ) (house recipient : List ℕ) (e : Effect) (part : List ℕ) : Type 0 where
  pub place : ℕ
  pub gives : RuleSays es i (both_rules house recipient) place e
  pub first : (j : ℕ) → j < place → RuleSays es i (both_rules house recipient) j e → ⊥
  pub bytes : part ≡ get_or (both_records house recipient) place []
