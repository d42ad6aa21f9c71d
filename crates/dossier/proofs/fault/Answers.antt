-- `dossier::fault` meets its contract: at each `return` the tests that led there say which case of `fault_of` holds. Assumes nothing.
use Rattle.std.proofs.Common.{◌≡◌, ℕ, ◌<◌, ◌≤◌, cond, ltb, arith, le-ltb, lt-ltb}
use native.Mathlib.Decide.{dec_le}
use Rattle.dossier.specs.Limits.{deepest}
use Rattle.dossier.specs.Reading.{Fields, fault_of}
use Rattle.dossier.proofs.fault.Goals as goal

-- a record that is not too deep, and outside or within what the order allows
module _ (low high : ℕ) (f : Fields) (shallow : f.depth ≤ deepest) where
  outside : (low ≤ f.depth → high < f.depth) → 4 ≡ fault_of low high f
  unfolding fault_of
  outside past =
      elim (dec_le low f.depth) [
        | yes l ↦ simp (le-ltb _ _ shallow, le-ltb _ _ l, lt-ltb _ _ (past l))
        | no l ↦ (let under : f.depth < low = omega arith in simp (le-ltb _ _ shallow, lt-ltb _ _ under))
      ]

  within : {n : ℕ} → low ≤ f.depth → f.depth ≤ high → n ≡ cond (ltb 1 f.decision) 6 (cond (ltb 3 f.mark) 6 0) → n ≡ fault_of low high f
  unfolding fault_of
  within least most e = simp (le-ltb _ _ shallow, le-ltb _ _ least, le-ltb _ _ most) e

pub returns-then-depth-gt-DEEPEST : goal.returns-then-depth-gt-DEEPEST
unfolding fault_of
returns-then-depth-gt-DEEPEST c = simp (lt-ltb _ _ c.if-depth-gt-DEEPEST.true)

pub returns-then-high-low : goal.returns-then-high-low
returns-then-high-low c = outside _ _ _ c.if-depth-gt-DEEPEST.false (λ l. omega arith)

pub returns-then-high-low-2 : goal.returns-then-high-low-2
returns-then-high-low-2 c = outside _ _ _ c.if-depth-gt-DEEPEST.false (λ l. omega arith)

pub returns-then-decision-gt1 : goal.returns-then-decision-gt1
returns-then-decision-gt1 c = within _ _ _ c.if-depth-gt-DEEPEST.false (omega arith) (omega arith) (simp (lt-ltb _ _ c.if-decision-gt1.true))

pub returns-then-mark-gt3 : goal.returns-then-mark-gt3
returns-then-mark-gt3 c =
    within _ _ _ c.if-depth-gt-DEEPEST.false (omega arith) (omega arith)
    (simp (le-ltb _ _ c.if-decision-gt1.false, lt-ltb _ _ c.if-mark-gt3.true))

pub returns : goal.returns
returns c =
    within _ _ _ c.if-depth-gt-DEEPEST.false (omega arith) (omega arith)
    (simp (le-ltb _ _ c.if-decision-gt1.false, le-ltb _ _ c.if-mark-gt3.false))
