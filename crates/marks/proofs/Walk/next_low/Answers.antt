-- `marks::Walk::next_low` meets its contract. Assumes nothing.
use Rattle.std.proofs.Common.{sym, arith}
use Rattle.dossier.proofs.Laws.{low_first, low-later}
use Rattle.marks.proofs.Walk.next_low.Goals as goal

pub returns-then-self-eq0 : goal.returns-then-self-eq0
returns-then-self-eq0 c = sym (low_first _ c.if-self-eq0.true)

pub returns-else-self-eq0 : goal.returns-else-self-eq0
returns-else-self-eq0 c = sym (low-later _ (omega (arith, c.if-self-eq0.false)))
