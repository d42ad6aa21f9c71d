-- The best sums by position: what the loop over an element's children keeps, for any elements that stand at the positions 0 to n - 1, whatever they are read from.
-- Assumes nothing.
use Rattle.std.proofs.Common.{◌≡◌, ℕ, suc, ◌+◌, ◌*◌, ◌<◌, ◌≤◌, refl, ap, mul-le-mul_right, arith}
use mathlib.Core.Path.{fun_ext}
use Rattle.dossier.specs.Limits.{most_elements}
use Rattle.dossier.specs.Elements.{Element}
use Rattle.dossier.specs.Forest.{Forest, nil, size_f, forest_below, end_of}
use Rattle.dossier.specs.declared.elements.Decision.{Decision}
use Rattle.dossier.specs.declared.elements.Decision.TheVariants.{Deny, Permit, None}
use Rattle.dossier.proofs.Positions.{from, ahead, below_in, ahead-end, ahead-stop, ahead_more}
use Rattle.rules.specs.declared.kinds.Combining.{Combining}
use Rattle.marks.specs.Marks.{Gateway}
use Rattle.least.specs.Prices.{wrong_cost, sums}
use Rattle.least.specs.Inner.{gateway_of, Small, sum_at, sums_of, plus_of, best_by, branch_of}
use Rattle.least.specs.declared.choosing.Sums.{Sums}
use Rattle.least.proofs.Minimal.{sums-most}
use Rattle.least.proofs.Summing.{branch}

-- ---- a sum for each value from above

-- what is summed and what is ahead come to what lies below
pub record Passed (G : Gateway) (W : ℕ) (el : ℕ → Element) (n at p : ℕ) (s : Decision → ℕ) : Type 0 where
  pub each : (v : Decision) → s v + sums G W (ahead el n at p) v ≡ sums G W (forest_below el n at) v
  pub place : p + size_f (ahead el n at p) ≡ end_of el n at
  pub low : at + 1 ≤ p
  pub high : p ≤ n

module _ (G : Gateway) (W : ℕ) (el : ℕ → Element) (n at : ℕ) where
  pass-none : (s : Decision → ℕ) → at < n → ((v : Decision) → s v ≡ 0) → Passed G W el n at (at + 1) s
  pass-none s l z = record { each = λ v. omega (arith, z v); place = refl; low = omega arith; high = omega arith }

  module _ (p : ℕ) (s : Decision → ℕ) (h : Passed G W el n at p s) where
    -- a child's branch is added
    pass-branch : (t : Decision → ℕ) → p < n → (el at).depth < (el p).depth
        → ((v : Decision) → t v ≡ s v + branch G W (el p) (from el n (p + 1)) v) → Passed G W el n at (end_of el n p) t
    unfolding sums size_f
    pass-branch t l deep more =
        let e = ahead_more el n at p l deep in
        record {
          each = λ v. omega (arith, ap (λ (F : Forest). sums G W F v) e, h.each v, more v);
          place = omega (arith, ap size_f e, h.place);
          low = omega (arith, h.low);
          high = omega (arith, below_in el n p);
        }

    -- nothing is ahead: what is summed is what lies below, and p is the branch's end
    over : ahead el n at p ≡ nil → (s ≡ sums G W (forest_below el n at)) × (p ≡ end_of el n at)
    unfolding sums size_f
    over e = (
      fun_ext (λ v. omega (arith, ap (λ (F : Forest). sums G W F v) e, h.each v)),
      omega (arith, ap size_f e, h.place),
    )

    pass_end : n ≤ p → (s ≡ sums G W (forest_below el n at)) × (p ≡ end_of el n at)
    pass_end l = over (ahead-end el n at p l)

    pass-out : p < n → (el p).depth ≤ (el at).depth → (s ≡ sums G W (forest_below el n at)) × (p ≡ end_of el n at)
    pass-out l low = over (ahead-stop el n at p l low)

    pass-most : (v : Decision) → s v ≤ n * suc W
    pass-most v =
        let in_all : size_f (forest_below el n at) ≤ n = omega (arith, below_in el n at) in
        omega (arith, h.each v, sums-most G W (forest_below el n at) v, mul-le-mul_right (suc W) in_all)

-- ---- the same in three numbers

of_at : (f : Decision → ℕ) (v : Decision) → sum_at (sums_of f) v ≡ f v
of_at f None = refl
of_at f Deny = refl
of_at f Permit = refl

plus-at : (a b : Sums) (v : Decision) → sum_at (plus_of a b) v ≡ sum_at a v + sum_at b v
plus-at a b None = refl
plus-at a b Deny = refl
plus-at a b Permit = refl

pub record Summed (c : Combining) (el : ℕ → Element) (n at p : ℕ) (s : Sums) : Type 0 where
  pub passed : Passed (gateway_of c) wrong_cost el n at p (sum_at s)

module _ (c : Combining) (el : ℕ → Element) (n at : ℕ) where
  pub start : at < n → Summed c el n at (at + 1) (record { none = 0; deny = 0; permit = 0 })
  start l = record { passed = pass-none (gateway_of c) wrong_cost el n at _ l (of_at (λ u. 0)) }

  module _ (p : ℕ) (s : Sums) (h : Summed c el n at p s) where
    pub turn : p < n → (el at).depth < (el p).depth → Summed c el n at (branch_of c el n p).next (plus_of s (branch_of c el n p).sums)
    turn l deep = record {
      passed =
          pass-branch (gateway_of c) wrong_cost el n at p (sum_at s) h.passed _ l deep
          (λ v. omega (
            arith,
            plus-at s (branch_of c el n p).sums v,
            of_at (best_by c (el p).decision (sums (gateway_of c) wrong_cost (forest_below el n p))) v,
          ));
    }

    pub over-end : n ≤ p → (sum_at s ≡ sums (gateway_of c) wrong_cost (forest_below el n at)) × (p ≡ (branch_of c el n at).next)
    over-end = pass_end (gateway_of c) wrong_cost el n at p (sum_at s) h.passed

    pub over-out : p < n → (el p).depth ≤ (el at).depth
        → (sum_at s ≡ sums (gateway_of c) wrong_cost (forest_below el n at)) × (p ≡ (branch_of c el n at).next)
    over-out = pass-out (gateway_of c) wrong_cost el n at p (sum_at s) h.passed

    few : n ≤ most_elements → (v : Decision) → sum_at s v ≤ most_elements * suc wrong_cost
    few in_all v =
        omega (arith, pass-most (gateway_of c) wrong_cost el n at p (sum_at s) h.passed v, mul-le-mul_right (suc wrong_cost) in_all)

    pub small : n ≤ most_elements → Small s
    small in_all = record { none = few in_all None; deny = few in_all Deny; permit = few in_all Permit }
