-- `choosing::choose_denying` meets its contract. Assumes nothing.
use Rattle.std.proofs.Common.{refl, ◌∙◌}
use Rattle.least.proofs.Prices.{denying_is}
use Rattle.least.proofs.choosing.choose_denying.Goals as goal

pub returns : goal.returns
returns c =
    let wrong = rw c.eq-denies.ensures at c.either-wrong.ensures in
    let same = rw c.eq-denies.ensures at c.either-same.ensures in
    let other = rw c.eq-denies.ensures at c.either-other.ensures in
    let permitted = rw c.eq-denies.ensures at c.either.ensures in
    c.pack.ensures
    ∙ denying_is c.args.s refl c.from_none-none.ensures c.from_same-set.ensures c.from_other-opposite.ensures c.with_mark.ensures c.args.decision wrong same other permitted
