-- `listing::mark_all` meets its contract. The invariant: what is left to write from element q on gives the dossier with the plan's marks. Assumes nothing.
use Rattle.std.proofs.Common.{sym, ◌∙◌}
use Rattle.dossier.specs.Bytes.{records}
use Rattle.listing.specs.Inner.{planned}
use Rattle.listing.proofs.Gathering.{with_first, with_none}
use Rattle.listing.proofs.mark_all.Goals as goal

pub loop-q-preserved : goal.loop-q-preserved
loop-q-preserved c =
    let t = c.loop-q in
    rw c.from.ensures (sym (with_first t.d (planned c.args.plan.now) t.q (records c.args.d.now) c.loop-q-test.true) ∙ t.invariant)

pub returns : goal.returns
returns c =
    let t = c.loop-q in
    sym (with_none t.d (planned c.args.plan.now) t.q (records c.args.d.now) c.loop-q-test.false) ∙ t.invariant
