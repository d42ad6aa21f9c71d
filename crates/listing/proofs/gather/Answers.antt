-- `listing::gather` meets its contract. The invariant: what is left to gather from rule i on gives the plan. Assumes nothing.
use Rattle.std.proofs.Common.{sym, ◌∙◌}
use Rattle.dossier.specs.Bytes.{records}
use Rattle.listing.proofs.Gathering.{gathered_next, gathered_none}
use Rattle.listing.proofs.gather.Goals as goal

pub loop-i-preserved : goal.loop-i-preserved
loop-i-preserved c =
    let t = c.loop-i in
    let rs = c.args.rules.now in
    gathered_next rs t.i (records rs) t.plan c.two-target.result c.told_more.result c.loop-i-test.true c.two-target.ensures (rw c.from.ensures at c.told_more.ensures)
    ∙ t.invariant

pub returns : goal.returns
returns c =
    let t = c.loop-i in
    sym (gathered_none c.args.rules.now t.i (records c.args.rules.now) t.plan c.loop-i-test.false) ∙ t.invariant
