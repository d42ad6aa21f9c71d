-- `least::place` meets its contract. The invariant: the array holds what the open depths hand down, and the marks ahead, written to the dossier so far, are the folder's marks written to the dossier. Assumes nothing.
use Rattle.least.proofs.Placing.{Placing}
use Rattle.least.proofs.place.Given as goal

abbrev pub invariant-loop-i : goal.invariant-loop-i
invariant-loop-i l = Placing l.combining l.initial.d l.i l.handed l.d
