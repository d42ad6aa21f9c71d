-- Which elements belong in the view, element by element: what the first says of those behind it. Assumes nothing.
use Rattle.std.proofs.Common.{◌≡◌, ℕ, zero, suc, ◌<◌, ◌≤◌, true, ltb, ◌↔◌, List, [], ◌∷◌, sym, refl, ◌∙◌, arith, ltb-true, le-ltb, lt-ltb}
use mathlib.Core.Bool.{false≢true, and-eq-true_iff}
use Rattle.dossier.specs.Elements.{Element}
use Rattle.dossier.specs.Below.{deeper, covers}
use Rattle.dossier.specs.declared.elements.Decision.{Decision}
use Rattle.dossier.specs.declared.elements.Decision.TheVariants.{Permit}
use Rattle.view.specs.View.{Belongs}

-- element j belongs in the view of these elements, and nothing before them hides it: not all of them up to j are deeper than the limit
abbrev pub Open : ℕ → List Element → List Decision → ℕ → Type 0
Open limit es answers j = (deeper limit es (suc j) ≡ true → ⊥) × Belongs es answers j

-- elements that are deeper than one depth are deeper than every smaller one
deeper-less : (k l : ℕ) (es : List Element) (n : ℕ) → k ≤ l → deeper l es n ≡ true → deeper k es n ≡ true
unfolding deeper
deeper-less k l es zero h q = refl
deeper-less k l [] (suc n) h q = q
deeper-less k l (e ∷ es) (suc n) h q =
    let both = (and-eq-true_iff (ltb l e.depth) (deeper l es n)).0 q in
    (and-eq-true_iff (ltb k e.depth) (deeper k es n)).1
    (lt-ltb k e.depth (omega (arith, ltb-true l e.depth both.0)), deeper-less k l es n h both.1)

module _ (limit : ℕ) (e : Element) (es : List Element) (a : Decision) (rest : List Decision) where
  first-deeper : (n : ℕ) → limit < e.depth → deeper limit (e ∷ es) (suc n) ≡ deeper limit es n
  unfolding deeper
  first-deeper n l = rw (lt-ltb limit e.depth l)

  first_level : (n : ℕ) → e.depth ≤ limit → deeper limit (e ∷ es) (suc n) ≡ true → ⊥
  unfolding deeper
  first_level n l q = false≢true (rw (le-ltb limit e.depth l) at q)

  belongs_first : a ≡ Permit → Belongs (e ∷ es) (a ∷ rest) 0
  unfolding covers
  belongs_first q zero c = q
  belongs_first q (suc t) c = absurd (false≢true c)

  belongs_rest : (j : ℕ) → Belongs (e ∷ es) (a ∷ rest) (suc j) → Belongs es rest j
  unfolding covers
  belongs_rest j h t c = h (suc t) c

  belongs_more : (j : ℕ) → (deeper e.depth es (suc j) ≡ true → a ≡ Permit) → Belongs es rest j → Belongs (e ∷ es) (a ∷ rest) (suc j)
  unfolding covers
  belongs_more j f h zero c = f c
  belongs_more j f h (suc t) c = h t c

  -- the first lies below a hidden one
  pub hidden-first : limit < e.depth → Open limit (e ∷ es) (a ∷ rest) 0 → ⊥
  unfolding deeper
  hidden-first l o = o.0 (first-deeper 0 l)

  pub hidden-rest : limit < e.depth → (j : ℕ) → Open limit es rest j ↔ Open limit (e ∷ es) (a ∷ rest) (suc j)
  hidden-rest l j = (
    λ o. (
      λ c. o.0 (sym (first-deeper (suc j) l) ∙ c),
      belongs_more j (λ c. absurd (o.0 (deeper-less limit e.depth es (suc j) (omega arith) c))) o.1,
    ),
    λ o. (λ c. o.0 (first-deeper (suc j) l ∙ c), belongs_rest j o.1),
  )

  -- it doesn't, and is permitted: it hides nothing, and the new limit hides nothing
  pub permitted-first : e.depth ≤ limit → a ≡ Permit → Open limit (e ∷ es) (a ∷ rest) 0
  permitted-first l q = (first_level 0 l, belongs_first q)

  pub permitted-rest : e.depth ≤ limit → a ≡ Permit → (new j : ℕ) → (deeper new es (suc j) ≡ true → ⊥) → Open new es rest j ↔ Open limit (e ∷ es) (a ∷ rest) (suc j)
  permitted-rest l q new j free = (
    λ o. (first_level (suc j) l, belongs_more j (λ c. q) o.1),
    λ o. (free, belongs_rest j o.1),
  )

  -- it is not permitted: it hides what is deeper
  pub denied_first : (a ≡ Permit → ⊥) → Open limit (e ∷ es) (a ∷ rest) 0 → ⊥
  unfolding covers deeper
  denied_first n o = n (o.1 0 refl)

  pub denied_rest : e.depth ≤ limit → (a ≡ Permit → ⊥) → (j : ℕ) → Open e.depth es rest j ↔ Open limit (e ∷ es) (a ∷ rest) (suc j)
  unfolding covers
  denied_rest l n j = (
    λ o. (first_level (suc j) l, belongs_more j (λ c. absurd (o.0 c)) o.1),
    λ o. (λ c. n (o.1 0 c), belongs_rest j o.1),
  )
