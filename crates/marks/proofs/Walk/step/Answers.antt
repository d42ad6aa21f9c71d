-- `marks::Walk::step` meets its contract: the test for refusal 17 is exact. Assumes nothing.
use Rattle.std.proofs.Common.{rules}
use Rattle.marks.proofs.Determined.{steps_of}
use Rattle.marks.proofs.Walk.step.Goals as goal

pub returns : goal.returns
returns c = steps_of _ _ _ (search rules) c.step_record-answer.ensures
