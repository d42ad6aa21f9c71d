-- `view::put` meets its contract. Assumes nothing.
use Rattle.view.proofs.Writing.{stored}
use Rattle.std.proofs.Common.{arith}
use Rattle.view.proofs.put.Goals as goal

pub returns : goal.returns
returns c =
    let p = c.requires in
    stored _ _ _ _ c.store.ensures p.0 (omega (arith, p.1))
