-- `dossier::store` meets its contract. The invariant: the first k bytes are stored. Assumes nothing.
use Rattle.std.proofs.Common.{◌*◌, sym, ◌∙◌, arith}
use Rattle.dossier.specs.Limits.{width}
use Rattle.dossier.proofs.Stores.{area-none, stored-more, stored-all}
use Rattle.dossier.proofs.store.Goals as goal

pub returns-then-area-i : goal.returns-then-area-i
returns-then-area-i c = sym (area-none _ _ _ (omega arith))

pub loop-k-preserved : goal.loop-k-preserved
loop-k-preserved c = rw c.loop-k.invariant (stored-more c.args.area.now (c.args.i * width) c.loop-k.k c.args.bytes (omega arith))

pub returns : goal.returns
returns c = c.loop-k.invariant ∙ stored-all c.args.area.now (c.args.i * width) c.loop-k.k c.args.bytes (omega arith) (omega arith)
