-- `listing::count` meets its contract. The invariant: the sum so far, with what the elements from i on set, is what all set, and is at most two for each element passed. Assumes nothing.
use Rattle.std.proofs.Common.{arith}
use Rattle.dossier.specs.Bytes.{records}
use Rattle.listing.specs.Inner.{mark_at}
use Rattle.listing.proofs.Costs.{cost-most, costs-start, costs-first, costs-none}
use Rattle.listing.proofs.count.Goals as goal

pub loop-i-init : goal.loop-i-init
loop-i-init c = (omega arith, omega (arith, costs-start c.args.d.now))

pub overflow_add-sum : goal.overflow_add-sum
overflow_add-sum c = omega (arith, c.cost-sum.ensures, cost-most c.from.result)

pub loop-i-preserved : goal.loop-i-preserved
loop-i-preserved c =
    let d = c.args.d.now in
    let i = c.loop-i.i in
    let step = costs-first d i (records d) c.loop-i-test.true in
    let most = cost-most (mark_at d i) in
    let here = rw c.from.ensures at c.cost-sum.ensures in
    (omega (arith, here), omega (arith, here))

pub returns : goal.returns
returns c =
    let d = c.args.d.now in
    let none = costs-none d c.loop-i.i (records d) c.loop-i-test.false in
    omega arith
