-- `marks::hands_well` meets its contract. The invariant of both loops: all depths pass the test exactly where nothing wrong was gathered and those from i on pass it. Assumes nothing.
use Rattle.std.proofs.Common.{◌≡◌}
use Rattle.marks.specs.Inner.{hands_well}
use Rattle.marks.proofs.Laws.{gathers}
use Rattle.marks.proofs.hands_well.Given as goal

abbrev pub invariant-loop-i : goal.invariant-loop-i
invariant-loop-i l = (hands_well l.opened 2 l.handed ≡ gathers l.opened l.above l.handed l.i l.wrong)

abbrev pub invariant-loop-i-2 : goal.invariant-loop-i-2
invariant-loop-i-2 l = (hands_well l.opened 2 l.handed ≡ gathers l.opened l.above l.handed l.i l.wrong)
