-- `listing::gather` meets its contract. The invariant: what is left to gather from rule i on gives the plan. Assumes nothing.
use Rattle.std.proofs.Common.{◌≡◌, ◌-◌}
use Rattle.listing.specs.Inner.{gathered}
use Rattle.listing.proofs.gather.Given as goal

abbrev pub invariant-loop-i : goal.invariant-loop-i
invariant-loop-i l = (gathered l.rules l.i (l.i-end - l.i) l.plan ≡ gathered l.rules 0 l.i-end l.initial.plan)
