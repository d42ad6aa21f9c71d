-- `rules::deciding` meets its contract. Assumes nothing.
use Rattle.std.proofs.Common.{sym, ◌∙◌}
use Rattle.rules.specs.Deciding.{deciding_of}
use Rattle.rules.proofs.Answers.{given-with, refused_with}
use Rattle.rules.proofs.deciding.Goals as goal

pub returns-in-Ok : goal.returns-in-Ok
unfolding deciding_of
returns-in-Ok c =
    let given = given-with _ (sym c.asked.ensures ∙ c.in-Ok.is) in
    let place = rw given.2 at c.deciding_place.ensures in
    c.part_at.ensures ∙ simp (place, given.1)

pub returns-in-Err : goal.returns-in-Err
unfolding deciding_of
returns-in-Err c = simp (refused_with _ (sym c.asked.ensures ∙ c.in-Err.is))
