-- `lines::put_rule` meets its contract: the parts of a line follow each other. Assumes nothing.
use Rattle.std.proofs.Common.{rules}
use Rattle.programs.proofs.Putting.{left_all, put_next, put_last}
use Rattle.front.proofs.lines.put_rule.Goals as goal

pub returns : goal.returns
returns c =
    let number = rw c.two.ensures at c.put_number-after_target.ensures in
    let effect = c.put_effect-after_effect.ensures in
    let after_target = put_next _ _ number.place number.written (left_all c.requires) in
    put_last _ (search rules) (search rules) (put_next _ _ effect.place effect.written after_target)
