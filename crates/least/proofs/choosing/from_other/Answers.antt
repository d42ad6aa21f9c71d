-- `choosing::from_other` meets its contract: in each case the mark is as good as the other three. Assumes nothing.
use Rattle.std.proofs.Common.{◌∙◌, arith}
use Rattle.dossier.specs.declared.elements.Mark.TheVariants.{Minus as m-, Plus as m+}
use Rattle.least.specs.Inner.{by_mark}
use Rattle.least.proofs.Prices.{priced_is}
use Rattle.least.proofs.choosing.from_other.Goals as goal

pub returns-then-other-same : goal.returns-then-other-same
returns-then-other-same c = c.with_mark.ensures ∙ priced_is (by_mark _ _ _ _) m- (omega arith)

pub returns : goal.returns
returns c = c.with_mark-2.ensures ∙ priced_is (by_mark _ _ _ _) m+ (omega arith)
