-- `least::fold_for` meets its contract: after what is asked the dossier is folded, or the refusal is handed on. Assumes nothing.
use Rattle.std.proofs.Common.{sym, ◌∙◌}
use Rattle.std.proofs.lemmas.Result.{err_from_is_err_and}
use Rattle.rules.proofs.Answers.{given-with, refused_with}
use Rattle.least.proofs.Replies.{asked-sound, folded-count, folded-refused}
use Rattle.least.proofs.fold_for.Goals as goal

pub fold_sound-requires : goal.fold_sound-requires
fold_sound-requires c = asked-sound _ _ _ (given-with _ (sym c.asked.ensures ∙ c.in_ok-combining.was)).1

pub returns : goal.returns
returns c =
    let g = given-with _ (sym c.asked.ensures ∙ c.in_ok-combining.was) in
    folded-count _ _ _ _ _ _ g.1 (rw g.2 at c.fold_sound.ensures)

pub returns-in_err-combining : goal.returns-in_err-combining
returns-in_err-combining c =
    let p = err_from_is_err_and c.from_residual.result c.from_residual.ensures.1 in
    rw (p.1, p.2) (folded-refused _ _ _ _ (refused_with _ (sym c.asked.ensures ∙ c.in_err-combining.was)))
