-- `descent::descend` meets its contract: what first applicable says, or deny overrides, with what it sees and exchanged back for permit overrides. Assumes nothing.
use Rattle.std.proofs.Common.{◌≡◌, rules, ◌∙◌}
use Rattle.dossier.proofs.RoundTrip.{effect-back, mark-back}
use Rattle.rules.specs.declared.kinds.Combining.TheVariants.{FirstApplicable as first_applicable}
use Rattle.marks.specs.Lent.{lent_answer, lent_after}
use Rattle.least.proofs.descent.descend.Goals as goal

pub returns-then-eq-clause-answered : goal.returns-then-eq-clause-answered
unfolding lent_answer
returns-then-eq-clause-answered c =
    let first : c.args.combining ≡ first_applicable = search rules in
    c.hand_on.ensures.answered ∙ rw (c.from.ensures, effect-back, c.from-then-eq.ensures, mark-back, first)

pub returns-then-eq-clause-handed : goal.returns-then-eq-clause-handed
unfolding lent_after
returns-then-eq-clause-handed c =
    let first : c.args.combining ≡ first_applicable = search rules in
    c.hand_on.ensures.handed ∙ rw (c.from.ensures, effect-back, c.from-then-eq.ensures, mark-back, first)
