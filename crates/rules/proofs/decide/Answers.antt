-- `rules::decide` meets its contract. Assumes nothing.
use Rattle.std.proofs.Common.{sym, ap, ◌∙◌, Ok, Err}
use Rattle.std.proofs.lemmas.Result.{err_from_is_err_and}
use Rattle.rules.specs.Inner.{effect_at}
use Rattle.rules.proofs.Choice.{effect_decides}
use Rattle.rules.proofs.Answers.{decide_replies, given-with, refused_with}
use Rattle.rules.proofs.decide.Goals as goal

pub returns-in_err-combining : goal.returns-in_err-combining
returns-in_err-combining c =
    let p = err_from_is_err_and c.from_residual.result c.from_residual.ensures.1 in
    let r = decide_replies _ _ _ _ _ (Err p.0) _ (refused_with _ (sym c.asked.ensures ∙ c.in_err-combining.was) ∙ ap Err (sym p.2)) p.1 in
    record { replied = r.0; numbered = r.1 }

pub returns : goal.returns
returns c =
    let given = given-with _ (sym c.asked.ensures ∙ c.in_ok-combining.was) in
    let place = rw given.2 at c.deciding_place-place.ensures in
    let r = decide_replies _ _ _ _ _ _ _ given.1 (ap Ok (c.effect_at.ensures ∙ ap (effect_at _) place ∙ effect_decides _ _ _ _)) in
    record { replied = r.0; numbered = r.1 }
