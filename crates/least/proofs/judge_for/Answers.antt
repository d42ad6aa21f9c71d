-- `least::judge_for` meets its contract: after what is asked the marks are judged, or the refusal is handed on. Assumes nothing.
use Rattle.std.proofs.Common.{sym, ◌∙◌}
use Rattle.std.proofs.lemmas.Result.{err_from_is_err_and}
use Rattle.dossier.proofs.Sounds.{sound-counted}
use Rattle.rules.proofs.Answers.{given-with, refused_with}
use Rattle.least.proofs.Replies.{asked-sound, judged-count, judged-refused}
use Rattle.least.proofs.judge_for.Goals as goal

pub invariant_of-judging : goal.invariant_of-judging
invariant_of-judging c = record { sound = sound-counted _ (asked-sound _ _ _ (given-with _ (sym c.asked.ensures ∙ c.in_ok-combining.was)).1) }

pub returns : goal.returns
returns c =
    let g = given-with _ (sym c.asked.ensures ∙ c.in_ok-combining.was) in
    judged-count _ _ _ _ _ g.1 (rw g.2 at c.report.ensures)

pub returns-in_err-combining : goal.returns-in_err-combining
returns-in_err-combining c =
    let p = err_from_is_err_and c.from_residual.result c.from_residual.ensures.1 in
    rw (p.1, p.2) (judged-refused _ _ _ _ (refused_with _ (sym c.asked.ensures ∙ c.in_err-combining.was)))
