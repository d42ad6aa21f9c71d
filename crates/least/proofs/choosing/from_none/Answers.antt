-- `choosing::from_none` meets its contract: in each case the mark is as good as the other three. Assumes nothing.
use Rattle.std.proofs.Common.{◌≡◌, ◌+◌, ap, ◌∙◌, arith}
use Rattle.dossier.specs.declared.elements.Mark.TheVariants.{Minus as m-, Plus as m+, PlusMinus as m±}
use Rattle.least.specs.Inner.{by_mark}
use Rattle.least.specs.declared.choosing.Priced.{Priced}
use Rattle.least.proofs.Prices.{priced_is}
use Rattle.least.proofs.choosing.from_none.Goals as goal

pub returns-then-none-eq0 : goal.returns-then-none-eq0
returns-then-none-eq0 c =
    let one : 1 ≡ 1 + c.args.none = omega arith in
    c.with_mark.ensures ∙ ap {B = Priced} (λ p. record { price = p; mark = m- }) one ∙ priced_is (by_mark _ _ _ _) m- (omega arith)

pub returns-then-none-other : goal.returns-then-none-other
returns-then-none-other c = c.with_mark-then-none-other.ensures ∙ priced_is (by_mark _ _ _ _) m- (omega arith)

pub returns-then-none-same : goal.returns-then-none-same
returns-then-none-same c = c.with_mark-then-none-same.ensures ∙ priced_is (by_mark _ _ _ _) m± (omega arith)

pub returns-then-same-other : goal.returns-then-same-other
returns-then-same-other c = c.with_mark-then-same-other.ensures ∙ priced_is (by_mark _ _ _ _) m+ (omega arith)

pub returns : goal.returns
returns c = c.with_mark-2.ensures ∙ priced_is (by_mark _ _ _ _) m± (omega arith)
