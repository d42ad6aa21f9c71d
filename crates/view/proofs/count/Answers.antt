-- `view::count` meets its contract. The invariant: what is counted and what is left to show make up the whole. Assumes nothing.
use Rattle.std.proofs.Common.{length, ap, arith}
use Rattle.view.specs.Inner.{memory}
use Rattle.view.proofs.Passes.{rest-first, rest-none, rest-shown, rest-hidden}
use Rattle.view.proofs.count.Goals as goal
use Rattle.view.proofs.count.Goals.{then-shown, else-shown}

pub loop-i-init : goal.loop-i-init
loop-i-init c = (omega arith, omega (arith, ap length (rest-first c.args.d.now c.from-handed.ensures c.lifted-limit.ensures)))

pub loop-i-preserved : goal.loop-i-preserved
loop-i-preserved c =
    let shown = c.shown.ensures in
    elim c.if-shown.branch [
      | then-shown w ↦ (omega (arith, w.sum-is), omega (arith, w.sum-is, ap length (rest-shown _ _ _ c.loop-i-test.true shown.0 shown.1 w.if-shown.true)))
      | else-shown w ↦ (omega (arith, w.sum-is), omega (arith, w.sum-is, ap length (rest-hidden _ _ _ c.loop-i-test.true shown.0 shown.1 w.if-shown.false)))
    ]

pub returns : goal.returns
returns c = omega (arith, ap length (rest-none (memory c.loop-i.handed c.loop-i.limit.depth) c.args.d.now c.loop-i.i c.loop-i-test.false))
