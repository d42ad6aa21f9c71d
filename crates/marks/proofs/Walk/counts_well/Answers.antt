-- `marks::Walk::counts_well` meets its contract: at each `return` the tests that led there say which case of `counts_well` holds. Assumes nothing.
use Rattle.std.proofs.Common.{le-ltb, lt-ltb, eq-eqb, ne_eqb, le-leb}
use borrow.Author.Tests.{lt-leb}
use Rattle.marks.specs.Inner.{counts_well}
use Rattle.marks.proofs.Walk.counts_well.Goals as goal

pub returns-then-self-eq0 : goal.returns-then-self-eq0
unfolding counts_well
returns-then-self-eq0 c = simp (eq-eqb _ _ c.if-self-eq0.true)

pub returns-then-self : goal.returns-then-self
unfolding counts_well
returns-then-self c = simp (ne_eqb _ _ c.if-self-eq0.false, le-ltb _ _ c.if-self.true)

pub returns-then-self-gt-MOST : goal.returns-then-self-gt-MOST
unfolding counts_well
returns-then-self-gt-MOST c = simp (ne_eqb _ _ c.if-self-eq0.false, lt-ltb _ _ c.if-self.false, lt-leb _ _ c.if-self-gt-MOST.true)

pub returns : goal.returns
unfolding counts_well
returns c = simp (ne_eqb _ _ c.if-self-eq0.false, lt-ltb _ _ c.if-self.false, le-leb _ _ c.if-self-gt-MOST.false)
