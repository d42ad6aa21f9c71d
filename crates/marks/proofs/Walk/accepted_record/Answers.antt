-- `marks::Walk::accepted_record` meets its contract: the depth is handed on as in a lent array, and the deeper ones are cleared. Assumes nothing.
use Rattle.std.proofs.Common.{rules}
use Rattle.marks.proofs.Takes.{accepted-is}
use Rattle.marks.proofs.Walk.accepted_record.Goals as goal

pub returns : goal.returns
returns c =
    let a = c.args in
    accepted-is a.self.now a.depth a.decision a.mark _ _ _ (search rules) c.requires.0 c.hand_on-answer.ensures.answered c.hand_on-answer.ensures.handed c.clear.ensures
