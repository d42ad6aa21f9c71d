-- `view::copy` meets its contract. The invariant: what is left to show, written from its place on, gives the whole. Assumes nothing.
use Rattle.std.proofs.Common.{length, ap, ◌∙◌, arith}
use Rattle.view.specs.Inner.{memory}
use Rattle.view.proofs.Passes.{rest-first, rest-none, rest-shown, rest-hidden, written-shown}
use Rattle.view.proofs.copy.Goals as goal
use Rattle.view.proofs.copy.Goals.{then-shown, else-shown}

pub loop-i-init : goal.loop-i-init
loop-i-init c = let e = rest-first c.args.d.now c.from-handed.ensures c.lifted-limit.ensures in (omega (arith, ap length e), rw e)

pub put-requires : goal.put-requires
put-requires c =
    let shown = c.shown.ensures in
    let e = rest-shown _ _ _ c.loop-i-test.true shown.0 shown.1 c.if-shown.true in
    (omega arith, omega (arith, ap length e, c.loop-i.auto.out))

pub loop-i-preserved : goal.loop-i-preserved
loop-i-preserved c =
    let at = c.loop-i in
    let shown = c.shown.ensures in
    let more = c.loop-i-test.true in
    elim c.if-shown.branch [
      | then-shown w ↦ (
        omega (arith, w.to-is, ap length (rest-shown _ _ _ more shown.0 shown.1 w.if-shown.true)),
        rw (w.to-is, w.out-is, w.put.ensures) (written-shown _ _ _ more shown.0 shown.1 w.if-shown.true at.out at.to ∙ at.invariant.1),
      )
      | else-shown w ↦
          let e = rest-hidden _ _ _ more shown.0 shown.1 w.if-shown.false in
          (omega (arith, w.to-is, ap length e), rw (w.to-is, w.out-is, ← e) at.invariant.1)
    ]

pub returns : goal.returns
returns c =
    let at = c.loop-i in
    let e = rest-none (memory at.handed at.limit.depth) c.args.d.now at.i c.loop-i-test.false in
    (omega (arith, ap length e), rw e at at.invariant.1)
