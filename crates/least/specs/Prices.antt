-- Prices: what a mark costs its element and everything below, the mark of the least price, and the best sums of a forest, for any gateway.
-- It says "An element's best counts follow from those of its children, .. separately for each value that may come from above" of document 01.
-- Assumes nothing: these are definitions.
use Rattle.std.specs.Prelude.{ℕ, suc, ◌+◌, Bool, true, false, cond, nat_le}
use Rattle.dossier.specs.Limits.{most_elements}
use Rattle.dossier.specs.Elements.{Element}
use Rattle.dossier.specs.declared.elements.Effect.{Effect}
use Rattle.dossier.specs.declared.elements.Mark.{Mark}
use Rattle.dossier.specs.declared.elements.Mark.TheVariants.{N as mn, Minus as m-, Plus as m+, PlusMinus as m±}
use Rattle.dossier.specs.Forest.{Forest, nil, node}
use Rattle.dossier.specs.declared.elements.Decision.{Decision}
use Rattle.rules.specs.Combining.{gives}
use Rattle.marks.specs.Marks.{Gateway}
use Rattle.listing.specs.Listing.{cost}

-- the mark with the smaller price, and where they are equal the first
unfoldable pub better : (Mark → ℕ) → Mark → Mark → Mark
better f a b = cond (nat_le (f a) (f b)) a b

-- of all four marks the one with the least price, and where several have it the first
unfoldable pub choose : (Mark → ℕ) → Mark
choose f = better f mn (better f m- (better f m+ m±))

-- a wrong answer costs `W`, which is more than any marking that is sought: so no mark need be ruled out
abbrev pub fine : ℕ → Bool → ℕ
fine W true = 0
fine W false = W

-- more than the rules of all elements together, with - on each
abbrev pub wrong_cost : ℕ
wrong_cost = suc most_elements

module _ (G : Gateway) (W : ℕ) where
  -- what an element of set decision `d` and everything below it cost with a mark, where `v` comes from above and `s` are the best sums below
  abbrev pub price : Effect → Decision → (Decision → ℕ) → Mark → ℕ
  price d v s m = cost m + (fine W (gives (G.answer m d v) d) + s (G.hand m d v))

  -- the best sum of a forest, for each value from above
  unfoldable pub sums : Forest → Decision → ℕ
  sums nil v = 0
  sums (node e ks rs) v = price e.decision v (λ u. sums ks u) (choose (price e.decision v (λ u. sums ks u))) + sums rs v

  -- the mark chosen for an element above this forest
  abbrev pub top : Element → Forest → Decision → Mark
  top e ks v = choose (price e.decision v (sums ks))
