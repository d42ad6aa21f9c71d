-- `least::best` meets its contract. The invariant: what is summed and what is ahead come to what lies below, and the plan holds the choices of the branches passed. Assumes nothing.
use Rattle.std.proofs.Common.{◌+◌, ◌-◌}
use Rattle.dossier.specs.Bytes.{records}
use Rattle.least.specs.Inner.{element_for, Planned}
use Rattle.least.proofs.Branches.{Summed}
use Rattle.least.proofs.+best.Given as goal

abbrev pub decreases-best : goal.decreases-best
decreases-best l = l.left

abbrev pub invariant-loop-p : goal.invariant-loop-p
invariant-loop-p l =
    Summed l.combining (element_for l.combining l.d) (records l.d) l.at l.p l.sums
    × Planned l.combining (element_for l.combining l.d) (records l.d) (l.at + 1) l.p l.initial.plan l.plan

abbrev pub decreases-loop-p : goal.decreases-loop-p
decreases-loop-p l = records l.d - l.p
