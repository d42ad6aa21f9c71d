-- `choosing::choose_first` meets its contract. Assumes nothing.
use Rattle.std.proofs.Common.{◌∙◌}
use Rattle.least.proofs.Prices.{chosen_is}
use Rattle.least.proofs.choosing.choose_first.Goals as goal

pub returns : goal.returns
returns c =
    let same = rw c.eq-denies.ensures at c.either-same.ensures in
    let other = rw c.eq-denies.ensures at c.either-other.ensures in
    let denied = rw c.eq-denies.ensures at c.either.ensures in
    let permitted = rw c.eq-denies.ensures at c.either-2.ensures in
    c.pack.ensures
    ∙ chosen_is c.args.s c.from_none-none.ensures c.from_same-set.ensures c.from_other-opposite.ensures c.args.decision same other denied permitted
