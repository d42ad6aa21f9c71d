-- `choosing::from_same` meets its contract: in each case the mark is as good as the other three. Assumes nothing.
use Rattle.std.proofs.Common.{◌∙◌, arith}
use Rattle.dossier.specs.declared.elements.Mark.TheVariants.{N as mn, PlusMinus as m±}
use Rattle.least.specs.Inner.{by_mark}
use Rattle.least.proofs.Prices.{priced_is}
use Rattle.least.proofs.choosing.from_same.Goals as goal

pub returns-then-same-other : goal.returns-then-same-other
returns-then-same-other c = c.with_mark.ensures ∙ priced_is (by_mark _ _ _ _) mn (omega arith)

pub returns : goal.returns
returns c = c.with_mark-2.ensures ∙ priced_is (by_mark _ _ _ _) m± (omega arith)
