-- What lies below an element, by position: for any elements that stand at the positions 0 to n - 1, whatever they are read from. Assumes nothing.
use Rattle.std.proofs.Common.{◌≡◌, ℕ, ◌+◌, ◌-◌, ◌<◌, ◌≤◌, List, drop, ap, ◌∙◌, arith}
use native.Mathlib.Nat.{sub-zero}
use Rattle.dossier.specs.Elements.{Element}
use Rattle.dossier.specs.Bytes.{run}
use Rattle.dossier.specs.Forest.{Forest, nil, node, size_f, under, forest_below, end_of}
use Rattle.dossier.proofs.Runs.{run_length, run-first, run_none, run_drop}
use Rattle.dossier.proofs.Under.{size_le, under-nil, under_stop, under-node}

-- the elements from p on
abbrev pub from : (ℕ → Element) → ℕ → ℕ → List Element
from el n p = run el p (n - p)

-- those of them that lie below the element at `at`
abbrev pub ahead : (ℕ → Element) → ℕ → ℕ → ℕ → Forest
ahead el n at p = under (el at).depth (from el n p)

module _ (el : ℕ → Element) (n : ℕ) where
  pub from_all : from el n 0 ≡ run el 0 n
  from_all = ap (run el 0) (sub-zero n)

  -- everything below an element is there
  pub below_in : (p : ℕ) → size_f (forest_below el n p) ≤ n - (p + 1)
  below_in p = omega (arith, size_le (el p).depth (from el n (p + 1)), run_length el (p + 1) (n - (p + 1)))

  -- after a branch come the elements from its end on
  after-branch : (p : ℕ) → drop (size_f (forest_below el n p)) (from el n (p + 1)) ≡ from el n (end_of el n p)
  after-branch p =
      let left : n - (p + 1) - size_f (forest_below el n p) ≡ n - end_of el n p = omega arith in
      run_drop el (p + 1) (size_f (forest_below el n p)) (n - (p + 1)) (below_in p) ∙ ap (run el (end_of el n p)) left

  module _ (at p : ℕ) where
    pub ahead-end : n ≤ p → ahead el n at p ≡ nil
    ahead-end l = ap (under (el at).depth) (run_none el p n l) ∙ under-nil (el at).depth

    pub ahead-stop : p < n → (el p).depth ≤ (el at).depth → ahead el n at p ≡ nil
    ahead-stop l h = ap (under (el at).depth) (run-first el p n l) ∙ under_stop (el at).depth (el p) (from el n (p + 1)) h

    pub ahead_more : p < n → (el at).depth < (el p).depth → ahead el n at p ≡ node (el p) (forest_below el n p) (ahead el n at (end_of el n p))
    ahead_more l h =
        ap (under (el at).depth) (run-first el p n l)
        ∙ under-node (el at).depth (el p) (from el n (p + 1)) h
        ∙ ap (λ (es : List Element). node (el p) (forest_below el n p) (under (el at).depth es)) (after-branch p)
