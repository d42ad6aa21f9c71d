-- `dossier::store` meets its contract. The invariant: the first k bytes are stored. Assumes nothing.
use Rattle.std.proofs.Common.{◌≡◌, take}
use lib.Seq.{sets}
use Rattle.dossier.proofs.store.Given as goal

abbrev pub invariant-loop-k : goal.invariant-loop-k
invariant-loop-k l = (l.area ≡ sets l.initial.area l.at (take l.k l.bytes))
