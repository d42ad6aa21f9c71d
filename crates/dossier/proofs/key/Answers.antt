-- `dossier::key` meets its contract. Assumes nothing.
use Rattle.std.proofs.Common.{arith, le-ltb, lt-ltb}
use Rattle.dossier.specs.Bytes.{key_of}
use Rattle.dossier.proofs.key.Goals as goal

pub returns-then-s-i : goal.returns-then-s-i
unfolding key_of
returns-then-s-i c = simp (le-ltb _ _ c.if-s-i.true)

pub returns : goal.returns
unfolding key_of
returns c = simp (lt-ltb _ _ c.if-s-i.false) (omega (arith, c.from_le_bytes.ensures))
