-- `marks::Walk::opened` meets its contract. Assumes nothing.
use Rattle.std.proofs.Common.{sym, arith, eq-eqb, ne_eqb}
use Rattle.dossier.proofs.Laws.{high-first, high-later}
use Rattle.marks.specs.Inner.{open_of}
use Rattle.marks.proofs.Walk.opened.Goals as goal

pub returns-then-self-eq0 : goal.returns-then-self-eq0
unfolding open_of
returns-then-self-eq0 c = record { opened = simp (eq-eqb _ _ c.if-self-eq0.true); next = sym (high-first _ _ c.if-self-eq0.true) }

pub returns-else-self-eq0 : goal.returns-else-self-eq0
unfolding open_of
returns-else-self-eq0 c = record { opened = simp (ne_eqb _ _ c.if-self-eq0.false); next = sym (high-later _ _ (omega (arith, c.if-self-eq0.false))) }
