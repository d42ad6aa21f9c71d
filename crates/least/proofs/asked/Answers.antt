-- `least::asked` meets its contract. Assumes nothing.
use Rattle.std.proofs.Common.{sym, ◌∙◌}
use Rattle.std.proofs.lemmas.Result.{err_from_is_err_and}
use Rattle.least.proofs.Replies.{asked-refused, asked_is}
use Rattle.least.proofs.asked.Goals as goal

pub returns-in_err-read : goal.returns-in_err-read
returns-in_err-read c =
    let p = err_from_is_err_and c.from_residual.result c.from_residual.ensures.1 in
    rw (p.1, p.2, sym (asked-refused _ c.args.combining _ (sym c.read.ensures ∙ c.in_err-read.was)))

pub returns : goal.returns
returns c = c.try_from.ensures ∙ asked_is _ _ _ (sym c.read.ensures ∙ c.in_ok-read.was)
