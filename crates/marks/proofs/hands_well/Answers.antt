-- `marks::hands_well` meets its contract. The invariant of both loops: all depths pass the test exactly where nothing wrong was gathered and those from i on pass it. Assumes nothing.
use Rattle.std.proofs.Common.{sym, ◌∙◌, arith}
use Rattle.marks.proofs.Laws.{gathers-first, gathers_open, gathers_closed, gathers-all}
use Rattle.marks.proofs.hands_well.Goals as goal

pub loop-i-init : goal.loop-i-init
loop-i-init c = gathers-first _ _

pub loop-i-preserved : goal.loop-i-preserved
loop-i-preserved c =
    let l = c.loop-i in
    let more = c.loop-i-test.true in
    l.invariant ∙ gathers_open _ _ c.args.handed.now l.i _ _ (omega (arith, c.requires, more)) more c.wrong_open-wrong.ensures

pub loop-i-2-preserved : goal.loop-i-2-preserved
loop-i-2-preserved c =
    let l = c.loop-i-2 in
    let more = c.loop-i-2-test.true in
    l.invariant ∙ gathers_closed _ _ _ l.i _ _ more (omega arith) (c.wrong_closed-wrong.ensures _)

pub returns : goal.returns
returns c = let l = c.loop-i-2 in sym (l.invariant ∙ gathers-all _ _ _ _ _ c.loop-i-2-test.false)
