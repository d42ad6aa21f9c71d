-- `least::Judging::first_wrong` meets its contract. Assumes nothing.
use Rattle.std.proofs.Common.{sym, ap, ◌∙◌, arith}
use Rattle.dossier.specs.Elements.{is}
use Rattle.dossier.proofs.Sounds.{counted-sound}
use Rattle.least.proofs.Descending.{alike, unlike}
use Rattle.least.proofs.Walked.{going_none, going_more, going-wrong, going_end}
use Rattle.least.proofs.Judging.first_wrong.Goals as goal

pub loop-i-init : goal.loop-i-init
loop-i-init c = rw c.from-handed.ensures (going_none _ _)

pub descend-answer-requires : goal.descend-answer-requires
descend-answer-requires c =
    omega (arith, c.depth-depth.ensures, c.loop-i.invariant.stands.long, (counted-sound _ _ c.args.self.now.sound).shallow _ c.loop-i-test.true)

pub returns-then-from-decision : goal.returns-then-from-decision
returns-then-from-decision c =
    going-wrong _ _ (counted-sound _ _ c.args.self.now.sound) _ c.loop-i-test.true _ c.loop-i.invariant _ _ _ _
    c.depth-depth.ensures c.from.ensures c.from-in-loop-i.ensures c.descend-answer.ensures.answered
    (λ q. unlike _ _ ((counted-sound _ _ c.args.self.now.sound).decisions _ c.loop-i-test.true) (λ e. c.if-from-decision.true (c.from-in-loop-i-2.ensures ∙ e)) (q ∙ ap is c.from.ensures))

pub loop-i-preserved : goal.loop-i-preserved
loop-i-preserved c =
    going_more _ _ (counted-sound _ _ c.args.self.now.sound) _ c.loop-i-test.true _ c.loop-i.invariant _ _ _ _
    c.depth-depth.ensures c.from.ensures c.from-in-loop-i.ensures c.descend-answer.ensures.answered _ c.descend-answer.ensures.handed
    (alike _ _ ((counted-sound _ _ c.args.self.now.sound).decisions _ c.loop-i-test.true) (sym c.from-in-loop-i-2.ensures ∙ c.if-from-decision.false) ∙ ap is (sym c.from.ensures))

pub returns : goal.returns
returns c = going_end _ _ (counted-sound _ _ c.args.self.now.sound) _ _ c.loop-i-test.false c.loop-i.invariant
