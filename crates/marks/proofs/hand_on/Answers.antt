-- `marks::hand_on` meets its contract. Assumes nothing.
use Rattle.std.proofs.Common.{sym, ◌∙◌}
use lib.Seq.{set_out}
use Rattle.marks.specs.Lent.{lent_answer, lent_after}
use Rattle.marks.proofs.hand_on.Goals as goal
use Rattle.marks.proofs.hand_on.Goals.{then-depth-handed, else-depth-handed}

pub returns-clause-answered : goal.returns-clause-answered
unfolding lent_answer
returns-clause-answered c = rw (c.answer_of.ensures, c.from-mark.ensures, c.from-set.ensures, c.from_above-above.ensures)

pub returns-clause-handed : goal.returns-clause-handed
unfolding lent_after
returns-clause-handed c =
    elim c.if-depth-handed.branch [
      | then-depth-handed w ↦ w.handed-is ∙ rw (w.from.ensures, w.hand_of.ensures, c.from-mark.ensures, c.from-set.ensures, c.from_above-above.ensures)
      | else-depth-handed w ↦ w.handed-is ∙ sym (set_out _ _ _ w.if-depth-handed.false)
    ]
