-- `marks::Walk::step_record` meets its contract. Assumes nothing.
use Rattle.std.proofs.Common.{sym, ◌∙◌}
use Rattle.marks.proofs.Laws.{left_sure}
use Rattle.marks.proofs.Takes.{step-refused, step-taken, refused-is}
use Rattle.marks.proofs.Walk.step_record.Goals as goal

pub returns-then-not-could_be_left : goal.returns-then-not-could_be_left
returns-then-not-could_be_left c = refused-is _ 17 0 c.refused.ensures ∙ sym (step-refused _ _ _ c.could_be_left.ensures c.if-not-could_be_left.true)

pub take_record-requires : goal.take_record-requires
take_record-requires c =
    let t = c.could_be_left in
    left_sure _ (sym t.ensures ∙ c.if-not-could_be_left.false)

pub returns : goal.returns
returns c = c.take_record.ensures ∙ sym (step-taken _ _ _ c.could_be_left.ensures c.if-not-could_be_left.false)
