-- `dossier::read` meets its contract. The invariant: what is left to read from record i decides the reply. Assumes nothing.
use Rattle.std.proofs.Common.{◌≡◌, ◌-◌}
use Rattle.dossier.specs.Reading.{low_after, high_after, last_before, fault_at, first_fault, read_of}
use Rattle.dossier.proofs.read.Given as goal

abbrev pub invariant-loop-i : goal.invariant-loop-i
invariant-loop-i l =
    (l.low ≡ low_after l.i) × (l.high ≡ high_after l.i (last_before l.d l.i)) × (first_fault (fault_at l.d) l.i (l.count - l.i) ≡ read_of l.d)
