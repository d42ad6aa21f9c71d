-- `answer` meets its contract: what is put is the text of the folder's reply. Assumes nothing.
use Rattle.std.proofs.Common.{arith}
use Rattle.programs.proofs.Putting.{puts_there}
use Rattle.front.proofs.Replies.{folded_short, answered}
use Rattle.front.proofs.answer.Goals as goal

pub list-requires : goal.list-requires
list-requires c = folded_short _ _ _ c.fold.ensures c.in-Ok.is

pub returns-in-Ok : goal.returns-in-Ok
returns-in-Ok c =
    answered _ _ _ c.fold.ensures _ c.in-Ok.is c.list.ensures

pub returns-in-Err : goal.returns-in-Err
returns-in-Err c =
    let put = c.put_refusal.ensures in
    let puts = puts_there (record { enough = omega (arith, put.within) }) put.place put.written in
    answered _ _ _ c.fold.ensures _ c.in-Err.is puts
