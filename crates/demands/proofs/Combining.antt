-- The decision of each combining is the published one: it is what the rule says in words about positions, and nothing else is. Assumes nothing.
use Rattle.std.proofs.Common.{◌≡◌, ℕ, zero, suc, ◌<◌, Bool, true, false, cond, ◌&&◌, ◌↔◌, List, [], ◌∷◌, sym, refl, ap, ◌∙◌, subst, ap₂, true≢false, arith, eq-eqb, eqb-true}
use mathlib.Core.Option.{some, some-injective, none-ne-some}
use native.Mathlib.Decide.{dec_le}
use lib.ListN.{get_elem?}
use Rattle.dossier.specs.Elements.{Element, is}
use Rattle.dossier.specs.declared.elements.Effect.{Effect}
use Rattle.dossier.specs.declared.elements.Effect.TheVariants.{Deny as deny, Permit as permit}
use Rattle.dossier.specs.Order.{Ordered}
use Rattle.dossier.specs.declared.elements.Decision.{Decision}
use Rattle.dossier.specs.declared.elements.Decision.TheVariants.{Deny, Permit, None}
use Rattle.dossier.proofs.Parents.{covers_chain}
use Rattle.rules.specs.Rules.{Rule}
use Rattle.rules.specs.declared.kinds.Reach.{Reach}
use Rattle.rules.specs.declared.kinds.Reach.TheVariants.{Itself as self, All as all}
use Rattle.rules.specs.Applying.{reaches, applies}
use Rattle.rules.specs.Combining.{first_effect, gives, any_gives, overrides, decision}
use Rattle.rules.specs.declared.kinds.Combining.{Combining}
use Rattle.rules.specs.declared.kinds.Combining.TheVariants.{FirstApplicable as first_applicable, DenyOverrides as deny_overrides, PermitOverrides as permit_overrides}
use Rattle.rules.proofs.Choice.{is-gives, gives-is}
use Rattle.demands.specs.Published.{Reaches, RuleSays, Some, NoRule, FirstRule, Combined, Published}

pub same : (a b : Effect) → is a ≡ is b → a ≡ b
same deny deny q = refl
same deny permit q = let z : ◌≡◌ {A = ℕ} 0 1 = cc in let y : ⊥ = omega arith in absurd y
same permit deny q = let z : ◌≡◌ {A = ℕ} 0 1 = cc in let y : ⊥ = omega arith in absurd y
same permit permit q = refl

-- ---- whether a rule applies

module _ (es : List Element) (o : Ordered es) (i : ℕ) where
  pub applied : (reach : Reach) (target : ℕ) → (reaches es reach target i ≡ true) ↔ Reaches es reach target i
  applied self target = (eqb-true target i, eq-eqb target i)
  applied all target = covers_chain es target i o

  -- ---- the rules of a list, one by one

  here : (r : Rule) (rs : List Rule) → applies es i r ≡ true → RuleSays es i (r ∷ rs) 0 r.effect
  here r rs a = record { rule = r; stands = refl; applies = (applied r.reach r.target).0 a; effect = refl }

  on : (r : Rule) (rs : List Rule) (k : ℕ) (e : Effect) → RuleSays es i rs k e → RuleSays es i (r ∷ rs) (suc k) e
  on r rs k e s = record { rule = s.rule; stands = s.stands; applies = s.applies; effect = s.effect }

  back : (r : Rule) (rs : List Rule) (k : ℕ) (e : Effect) → RuleSays es i (r ∷ rs) (suc k) e → RuleSays es i rs k e
  back r rs k e s = record { rule = s.rule; stands = s.stands; applies = s.applies; effect = s.effect }

  -- the first of a list
  head : (r : Rule) (rs : List Rule) (e : Effect) → RuleSays es i (r ∷ rs) 0 e → (applies es i r ≡ true) × (r.effect ≡ e)
  head r rs e s =
      let same : s.rule ≡ r = sym (some-injective r s.rule s.stands) in
      (ap (applies es i) (sym same) ∙ (applied s.rule.reach s.rule.target).1 s.applies, ap (λ (x : Rule). x.effect) (sym same) ∙ s.effect)

  empty : (k : ℕ) (e : Effect) → RuleSays es i [] k e → ⊥
  empty k e s = none-ne-some s.rule s.stands

  -- ---- first applicable

  first_published : (rs : List Rule) → Published es i rs first_applicable (first_effect es i rs)
  unfolding first_effect
  first_published [] = λ e k. empty k e
  first_published (r ∷ rs) = go (applies es i r) refl (first_effect es i rs) (first_published rs)
    where
      start : (e : Effect) → r.effect ≡ e → applies es i r ≡ true → FirstRule es i (r ∷ rs) e
      start e q a = (0, subst (RuleSays es i (r ∷ rs) 0) q (here r rs a), λ j l. let z : ⊥ = omega arith in absurd z)

      none : applies es i r ≡ false → (f : Effect) → RuleSays es i (r ∷ rs) 0 f → ⊥
      none a f s = true≢false (sym (head r rs f s).0 ∙ a)

      more : (e : Effect) → applies es i r ≡ false → FirstRule es i rs e → FirstRule es i (r ∷ rs) e
      more e a w = (suc w.0, on r rs w.0 e w.1, before)
        where
          before : (j : ℕ) → j < suc w.0 → (f : Effect) → RuleSays es i (r ∷ rs) j f → ⊥
          before zero l f s = none a f s
          before (suc j) l f s = w.2 j (omega arith) f (back r rs j f s)

      silent : applies es i r ≡ false → Published es i rs first_applicable None → Published es i (r ∷ rs) first_applicable None
      silent a h e zero s = none a e s
      silent a h e (suc k) s = h e k (back r rs k e s)

      effect : (e : Effect) → r.effect ≡ e → applies es i r ≡ true → Published es i (r ∷ rs) first_applicable (is e)
      effect deny q a = start deny q a
      effect permit q a = start permit q a

      go : (t : Bool) → applies es i r ≡ t → (v : Decision) → Published es i rs first_applicable v → Published es i (r ∷ rs) first_applicable (cond t (is r.effect) v)
      go true a v h = effect r.effect refl a
      go false a Deny h = more deny a h
      go false a Permit h = more permit a h
      go false a None h = silent a h

  -- ---- does any applying rule have this effect

  Any : Effect → List Rule → Bool → Type 0
  Any e rs true = Some es i rs e
  Any e rs false = NoRule es i rs e

  any : (e : Effect) (rs : List Rule) → Any e rs (any_gives e es i rs)
  unfolding any_gives Any
  any e [] = λ k. empty k e
  any e (r ∷ rs) = go (gives (is e) r.effect) (applies es i r) refl refl (any_gives e es i rs) (any e rs)
    where
      none : (x y : Bool) → gives (is e) r.effect ≡ x → applies es i r ≡ y → (x && y) ≡ false → NoRule es i rs e → NoRule es i (r ∷ rs) e
      none x y p q n h zero s =
          true≢false (sym (ap₂ ◌&&◌ (sym p ∙ ap (gives (is e)) (head r rs e s).1 ∙ is-gives e) (sym q ∙ (head r rs e s).0)) ∙ n)
      none x y p q n h (suc k) s = h k (back r rs k e s)

      go : (x y : Bool) → gives (is e) r.effect ≡ x → applies es i r ≡ y → (t : Bool) → Any e rs t → Any e (r ∷ rs) (cond (x && y) true t)
      go true true p q t h = (0, subst (RuleSays es i (r ∷ rs) 0) (same r.effect e (gives-is (is e) r.effect p)) (here r rs q))
      go true false p q true h = (suc h.0, on r rs h.0 e h.1)
      go true false p q false h = none true false p q refl h
      go false y p q true h = (suc h.0, on r rs h.0 e h.1)
      go false y p q false h = none false y p q refl h

  -- ---- every combining

  module _ (rs : List Rule) where
    neither : NoRule es i rs deny → NoRule es i rs permit → (e : Effect) → NoRule es i rs e
    neither a b deny = a
    neither a b permit = b

    published : (c : Combining) → Published es i rs c (decision c es i rs)
    unfolding overrides Any
    published first_applicable = first_published rs
    published deny_overrides = go (any_gives deny es i rs) (any_gives permit es i rs) (any deny rs) (any permit rs)
      where
        go : (s t : Bool) → Any deny rs s → Any permit rs t → Published es i rs deny_overrides (cond s Deny (cond t Permit None))
        go true t a b = a
        go false true a b = (a, b)
        go false false a b = neither a b
    published permit_overrides = go (any_gives permit es i rs) (any_gives deny es i rs) (any permit rs) (any deny rs)
      where
        go : (s t : Bool) → Any permit rs s → Any deny rs t → Published es i rs permit_overrides (cond s Permit (cond t Deny None))
        go true t a b = a
        go false true a b = (a, b)
        go false false a b = neither b a

    -- ---- and nothing else is published

    first_one : (a b : Effect) → FirstRule es i rs a → FirstRule es i rs b → a ≡ b
    first_one a b x y = go (dec_le (suc x.0) y.0) (dec_le (suc y.0) x.0)
      where
        go : Dec (x.0 < y.0) → Dec (y.0 < x.0) → a ≡ b
        go (yes l) m = absurd (y.2 x.0 l a x.1)
        go (no l) (yes m) = absurd (x.2 y.0 m b y.1)
        go (no l) (no m) =
            let k : x.0 ≡ y.0 = omega arith in
            let q : some x.1.rule ≡ some y.1.rule = sym x.1.stands ∙ ap (get_elem? rs) k ∙ y.1.stands in
            sym x.1.effect ∙ ap (λ (r : Rule). r.effect) (some-injective _ _ q) ∙ y.1.effect

    not_both : (c : Combining) → Combined es i rs c deny → Combined es i rs c permit → ⊥
    not_both first_applicable x y = let e = first_one deny permit x y in let z : ◌≡◌ {A = ℕ} 0 1 = cc in omega arith
    not_both deny_overrides x y = y.0 x.0 x.1
    not_both permit_overrides x y = x.0 y.0 y.1

    not-silent : (c : Combining) (e : Effect) → Combined es i rs c e → ((f : Effect) → NoRule es i rs f) → ⊥
    not-silent first_applicable e x n = n e x.0 x.1
    not-silent deny_overrides deny x n = n deny x.0 x.1
    not-silent deny_overrides permit x n = n permit x.1.0 x.1.1
    not-silent permit_overrides permit x n = n permit x.0 x.1
    not-silent permit_overrides deny x n = n deny x.1.0 x.1.1

    one : (c : Combining) (v w : Decision) → Published es i rs c v → Published es i rs c w → v ≡ w
    one c Deny Deny x y = refl
    one c Deny Permit x y = absurd (not_both c x y)
    one c Deny None x y = absurd (not-silent c deny x y)
    one c Permit Deny x y = absurd (not_both c y x)
    one c Permit Permit x y = refl
    one c Permit None x y = absurd (not-silent c permit x y)
    one c None Deny x y = absurd (not-silent c deny y x)
    one c None Permit x y = absurd (not-silent c permit y x)
    one c None None x y = refl

    pub is-published : (c : Combining) (v : Decision) → (decision c es i rs ≡ v) ↔ Published es i rs c v
    is-published c v = (λ e. subst (Published es i rs c) e (published c), one c (decision c es i rs) v (published c))
