-- `dossier::below` meets its contract. The invariant: what is left to read from record i on gives the answer. Assumes nothing.
use Rattle.std.proofs.Common.{◌≡◌}
use Rattle.dossier.specs.Bytes.{elements_of}
use Rattle.dossier.specs.Below.{covers}
use Rattle.dossier.proofs.Covers.{deeper_from}
use Rattle.dossier.proofs.below.Given as goal

abbrev pub invariant-loop-i : goal.invariant-loop-i
invariant-loop-i l = (deeper_from l.d l.shallowest l.lower l.i ≡ covers (elements_of l.d) l.upper l.lower)
