-- `marks::Walk::fresh` meets its contract. Assumes nothing.
use Rattle.marks.specs.Stepping.{fresh_of}
use Rattle.marks.proofs.Walk.fresh.Goals as goal

pub returns : goal.returns
unfolding fresh_of
returns c = rw c.from.ensures
