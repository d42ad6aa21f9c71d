-- `least::place` meets its contract. Assumes nothing.
use Rattle.least.proofs.Placing.{placing_none, placing_fits, placing_more, placing_end}
use Rattle.least.proofs.place.Goals as goal

pub loop-i-init : goal.loop-i-init
loop-i-init c = rw c.from-handed.ensures (placing_none _ _)

pub descend-requires : goal.descend-requires
descend-requires c =
    placing_fits _ _ _ c.requires.0 c.requires.1 _ c.loop-i-test.true _ _ c.loop-i.invariant _ c.depth-depth.ensures

pub loop-i-preserved : goal.loop-i-preserved
loop-i-preserved c =
    rw c.from.ensures
    (placing_more _ _ _ c.requires.0 c.requires.1 _ c.loop-i-test.true _ _ c.loop-i.invariant _ _ _ _ _
    c.depth-depth.ensures c.from-decision.ensures c.from_above.ensures c.unpack-mark.ensures c.descend.ensures.handed)

pub returns : goal.returns
returns c = placing_end _ _ _ _ _ c.requires.0 c.loop-i-test.false c.loop-i.invariant
