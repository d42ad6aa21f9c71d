-- The deciding rule's bytes as they are copied: all eight, or none. Assumes nothing.
use Rattle.std.proofs.Common.{◌≡◌, ℕ, ◌⊎◌, List, [], ◌∷◌, length, sym, refl, ◌∙◌, inl, inr, arith, eq-eqb, Result, Ok, Err}
use Rattle.dossier.specs.Limits.{width}
use Rattle.dossier.specs.declared.elements.Decision.TheVariants.{Deny, Permit, None}
use Rattle.rules.specs.Deciding.{decide_of, deciding_of}
use Rattle.rules.proofs.Parts.{Silent, none, refused, part-empty, part-eight}
use Rattle.capi.specs.Packed.{part_after}
use Rattle.capi.specs.Inner.{if_whole}
use Rattle.dossier.specs.declared.elements.Decision.{Decision}
use Rattle.dossier.specs.declared.Refusal.{Refusal}

-- the deciding rule's bytes are none, or a record's
deciding-part : (d house recipient : List ℕ) (c i : ℕ) → (deciding_of d house recipient c i ≡ []) ⊎ (length (deciding_of d house recipient c i) ≡ width)
deciding-part d house recipient c i = go (decide_of d house recipient c i) refl
  where
    empty : Silent (decide_of d house recipient c i) → (deciding_of d house recipient c i ≡ []) ⊎ (length (deciding_of d house recipient c i) ≡ width)
    empty s = inl ((part-empty d house recipient c i).1 s)

    go : (a : Result Decision Refusal) → decide_of d house recipient c i ≡ a → (deciding_of d house recipient c i ≡ []) ⊎ (length (deciding_of d house recipient c i) ≡ width)
    go (Err f) e = empty (rw e (refused f))
    go (Ok None) e = empty (rw e none)
    go (Ok Deny) e = inr (part-eight d house recipient c i Deny e (λ q. let z : ◌≡◌ {A = ℕ} 0 1 = cc in omega arith))
    go (Ok Permit) e = inr (part-eight d house recipient c i Permit e (λ q. let z : ◌≡◌ {A = ℕ} 0 1 = cc in omega arith))

-- so the number of bytes that are copied is replied, and they are what the area then holds, or it is as it was
all_or_none : (part was : List ℕ) → (part ≡ []) ⊎ (length part ≡ width)
    → (if_whole part width 0 ≡ length part) × (if_whole part part was ≡ part_after part was)
all_or_none [] was h = (refl, refl)
all_or_none (x ∷ part) was (inl e) = let z : ◌≡◌ {A = ℕ} 0 1 = cc in absurd (omega arith)
all_or_none (x ∷ part) was (inr e) = rw (eq-eqb (length (x ∷ part)) width e) (sym e, refl)

pub copied_part : (d house recipient : List ℕ) (c i : ℕ) (was : List ℕ) {r : ℕ} {part new : List ℕ} → part ≡ deciding_of d house recipient c i
    → (r ≡ if_whole part width 0) × (new ≡ if_whole part part was)
    → (r ≡ length (deciding_of d house recipient c i)) × (new ≡ part_after (deciding_of d house recipient c i) was)
copied_part d house recipient c i was p e =
    let a = all_or_none (deciding_of d house recipient c i) was (deciding-part d house recipient c i) in
    (rw p at e.0 ∙ a.0, rw p at e.1 ∙ a.1)
