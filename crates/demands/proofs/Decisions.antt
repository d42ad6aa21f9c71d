-- Deciding one element gives the published decision, and the second call the deciding rule's bytes. Assumes nothing.
use Rattle.std.proofs.Common.{◌≡◌, ℕ, zero, suc, ◌<◌, ◌≤◌, ◌≢◌, ◌⊎◌, ◌↔◌, List, [], ◌∷◌, length, get_or, sym, refl, ap, ◌∙◌, inl, inr, arith, Result, Ok, Err}
use mathlib.Core.Option.{some, some-injective, none-ne-some}
use lib.ListN.{get_elem?}
use Rattle.dossier.specs.Elements.{is}
use Rattle.dossier.specs.declared.elements.Effect.{Effect}
use Rattle.dossier.specs.declared.elements.Effect.TheVariants.{Deny as deny, Permit as permit}
use Rattle.dossier.specs.Bytes.{records, elements_of}
use Rattle.dossier.specs.Order.{Ordered}
use Rattle.dossier.specs.Reading.{Sound}
use Rattle.dossier.specs.declared.elements.Decision.{Decision}
use Rattle.dossier.specs.declared.elements.Decision.TheVariants.{None}
use Rattle.dossier.specs.declared.Refusal.{Refusal}
use Rattle.rules.specs.Rules.{Rule, rule_at}
use Rattle.rules.specs.ReadingRules.{SoundRules}
use Rattle.rules.specs.Applying.{applies}
use Rattle.rules.specs.Combining.{last_combining, combining_of}
use Rattle.rules.specs.Deciding.{deciding_at, both_rules, decide_of, deciding_of}
use Rattle.rules.proofs.Answers.{given-answer, given-part}
use Rattle.rules.proofs.Parts.{FirstGiving, Silent, none, refused, part-empty, decided-first}
use Rattle.demands.specs.Published.{Published, Deciding}
use Rattle.demands.proofs.Combining.{same, applied, is-published}

-- rule k of a list, and what stands there where there is one
there : (rs : List Rule) (k : ℕ) (z : Rule) → k < length rs → get_elem? rs k ≡ some (get_or rs k z)
there [] k z l = let y : ⊥ = omega arith in absurd y
there (r ∷ rs) zero z l = refl
there (r ∷ rs) (suc k) z l = there rs k z (omega arith)

stands : (rs : List Rule) (k : ℕ) (z r : Rule) → get_elem? rs k ≡ some r → get_or rs k z ≡ r
stands [] k z r e = absurd (none-ne-some r e)
stands (q ∷ rs) zero z r e = some-injective q r e
stands (q ∷ rs) (suc k) z r e = stands rs k z r e

not_none : (e : Effect) → is e ≢ None
not_none deny q = let z : ◌≡◌ {A = ℕ} 0 1 = cc in omega arith
not_none permit q = let z : ◌≡◌ {A = ℕ} 0 1 = cc in omega arith

module _ (d house recipient : List ℕ) (c i : ℕ) where
  abbrev rules : List Rule
  rules = both_rules house recipient

  pub decided : Sound d → SoundRules d house → SoundRules d recipient → c ≤ last_combining → i < records d
      → (v : Decision) → (decide_of d house recipient c i ≡ Ok v) ↔ Published (elements_of d) i rules (combining_of c) v
  decided s h r l m v =
      let p = is-published (elements_of d) s.order i rules (combining_of c) v in
      let g = given-answer d house recipient c i v in (
        λ e. p.0 (sym (g.0 e).1),
        λ q. g.1 (record { elements = s; first = h; second = r; combining = l; element = m }, sym (p.1 q)),
      )

  pub deciding-rule : (e : Effect) → decide_of d house recipient c i ≡ Ok (is e) → Deciding (elements_of d) i house recipient e (deciding_of d house recipient c i)
  deciding-rule e given =
      let z = rule_at [] 0 in
      let k = deciding_at (combining_of c) (elements_of d) i rules in
      let order : Ordered (elements_of d) = ((given-answer d house recipient c i (is e)).0 given).0.elements.order in
      let f : FirstGiving (elements_of d) i rules z (is e) k = decided-first d house recipient c i (is e) given (not_none e) z in
      let found : Rule = get_or rules k z in
      record {
        place = k;
        gives = record {
          rule = found;
          stands = there rules k z f.there;
          applies = (applied (elements_of d) order i found.reach found.target).0 f.applying;
          effect = same found.effect e f.effect;
        };
        first = λ j l s. (
            let q : get_or rules j z ≡ s.rule = stands rules j z s.rule s.stands in
            f.first j l
            (ap (applies (elements_of d) i) q ∙ (applied (elements_of d) order i s.rule.reach s.rule.target).1 s.applies)
            (ap (λ (r : Rule). is r.effect) q ∙ ap is s.effect));
        bytes = given-part d house recipient c i (is e) given;
      }

  pub deciding-none : (deciding_of d house recipient c i ≡ [])
      ↔ ((decide_of d house recipient c i ≡ Ok None) ⊎ ((f : Refusal) × (decide_of d house recipient c i ≡ Err f)))
  deciding-none =
      let p = part-empty d house recipient c i in
      (λ e. to (decide_of d house recipient c i) (p.0 e), λ q. p.1 (from (decide_of d house recipient c i) q))
    where
      to : (a : Result Decision Refusal) → Silent a → (a ≡ Ok None) ⊎ ((f : Refusal) × (a ≡ Err f))
      to a none = inl refl
      to a (refused f) = inr (f, refl)

      from : (a : Result Decision Refusal) → (a ≡ Ok None) ⊎ ((f : Refusal) × (a ≡ Err f)) → Silent a
      from a (inl e) = rw e none
      from a (inr q) = rw q.1 (refused q.0)
