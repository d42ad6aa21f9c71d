-- `listing::mark_all` meets its contract. The invariant: what is left to write from element q on gives the dossier with the plan's marks. Assumes nothing.
use Rattle.std.proofs.Common.{◌≡◌, ◌-◌}
use Rattle.dossier.specs.Bytes.{run, with_marks}
use Rattle.listing.specs.Inner.{planned}
use Rattle.listing.proofs.mark_all.Given as goal

abbrev pub invariant-loop-q : goal.invariant-loop-q
invariant-loop-q l = (with_marks l.d l.q (run (planned l.plan) l.q (l.q-end - l.q)) ≡ with_marks l.initial.d 0 (run (planned l.plan) 0 l.q-end))
