-- `least::Judging::first_wrong` meets its contract. The invariant: the array holds what the open depths hand down, and every element passed is decided as it is set. Assumes nothing.
use Rattle.least.proofs.Walked.{Going}
use Rattle.least.proofs.Judging.first_wrong.Given as goal

abbrev pub invariant-loop-i : goal.invariant-loop-i
invariant-loop-i l = Going l.self.combining l.d l.i l.handed
