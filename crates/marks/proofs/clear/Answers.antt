-- `marks::clear` meets its contract. Assumes nothing.
use Rattle.std.proofs.Common.{◌≡◌, ◌-◌, ◌≤◌, length, drop, sym, append-nil, arith, length-drop, length-take-le, drop_of_length-le}
use Rattle.marks.specs.Inner.{cleared}
use Rattle.marks.proofs.Laws.{clear_end}
use Rattle.marks.proofs.clear.Goals as goal

pub returns-then-from-handed : goal.returns-then-from-handed
unfolding cleared
returns-then-from-handed c =
    let handed = c.args.handed.now in
    let left : length (drop c.args.from handed) ≡ length handed - c.args.from = length-drop c.args.from handed in
    let past : length (drop c.args.from handed) ≤ length handed - c.args.from = omega arith in
    rw (
      c.fill.ensures.after (λ y h. h),
      c.from.ensures,
      length-take-le (length handed - c.args.from) (drop c.args.from handed) (omega arith),
      drop_of_length-le (drop c.args.from handed) past,
      append-nil,
    )

pub returns-else-from-handed : goal.returns-else-from-handed
returns-else-from-handed c = sym (clear_end _ _ c.if-from-handed.false)
