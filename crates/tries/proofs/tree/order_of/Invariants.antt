-- `tree::order_of`: what stands in the order so far are positions of elements. Assumes nothing.
use Rattle.std.proofs.Common.{◌<◌, All}
use Rattle.tries.proofs.tree.order_of.Given as goal

abbrev pub invariant-loop-q : goal.invariant-loop-q
invariant-loop-q g l = All (λ q. q < g.row.N) l.order
