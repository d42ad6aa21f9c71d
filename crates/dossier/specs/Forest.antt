-- Elements as trees, and what lies below an element. Document 01 gives best counts by them: "An element's best counts follow from those of its children", through at most 1,024 levels since request M-103.
-- Assumes nothing: these are definitions.
use Rattle.std.specs.Prelude.{ℕ, suc, ◌+◌, ◌-◌, cond, List, [], ◌∷◌, nat_lt}
use Rattle.dossier.specs.Elements.{Element}
use Rattle.dossier.specs.Bytes.{run}

-- an element, the forest of its children, and the forest of its later siblings
pub data Forest : Type 0 where
  nil : Forest
  node : Element → Forest → Forest → Forest

-- how many elements a forest has
unfoldable pub size_f : Forest → ℕ
size_f nil = 0
size_f (node e ks rs) = suc (size_f ks + size_f rs)

-- the first trees of a forest whose roots are deeper than `k`, and the trees after them
unfoldable pub front_f : ℕ → Forest → Forest
front_f k nil = nil
front_f k (node e ks rs) = cond (nat_lt k e.depth) (node e ks (front_f k rs)) nil

unfoldable pub back_f : ℕ → Forest → Forest
back_f k nil = nil
back_f k (node e ks rs) = cond (nat_lt k e.depth) (back_f k rs) (node e ks rs)

-- the forest of elements in document order: the trees that follow an element and are deeper are those of its children
unfoldable pub parse : List Element → Forest
parse [] = nil
parse (e ∷ es) = node e (front_f e.depth (parse es)) (back_f e.depth (parse es))

-- the elements below one of depth `k` that `es` follow, as a forest
abbrev pub under : ℕ → List Element → Forest
under k es = front_f k (parse es)

-- those below the element at position `at`, where `el` has the elements by position, n of them; and the position after them
abbrev pub forest_below : (ℕ → Element) → ℕ → ℕ → Forest
forest_below el n at = under (el at).depth (run el (at + 1) (n - (at + 1)))

abbrev pub end_of : (ℕ → Element) → ℕ → ℕ → ℕ
end_of el n at = at + 1 + size_f (forest_below el n at)
