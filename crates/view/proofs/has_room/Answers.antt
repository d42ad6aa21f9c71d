-- `view::has_room` meets its contract. Assumes nothing.
use Rattle.std.proofs.Common.{◌*◌, length, ◌∙◌, sym, arith, le-leb}
use Rattle.view.specs.Inner.{shown_of}
use Rattle.view.proofs.Passes.{few}
use Rattle.view.proofs.has_room.Goals as goal

pub returns-then-d-room : goal.returns-then-d-room
returns-then-d-room c =
    let s = c.args in
    le-leb _ _ (omega arith) ∙ sym (le-leb (length (shown_of s.d.now) * 8) s.room (omega (arith, few s.d.now)))

pub overflow_mul-result : goal.overflow_mul-result
overflow_mul-result c = omega (arith, few c.args.d.now, c.count.ensures)
