-- `choosing::choose` meets its contract: one of two gateways, and the second with what it sees. Assumes nothing.
use Rattle.std.proofs.Common.{◌≡◌, rules, sym, ◌∙◌}
use Rattle.rules.specs.declared.kinds.Combining.TheVariants.{FirstApplicable as first_applicable}
use Rattle.least.specs.Inner.{sum_at}
use Rattle.least.proofs.Descending.{denying_chosen}
use Rattle.least.proofs.choosing.choose.Goals as goal

pub returns-then-eq : goal.returns-then-eq
returns-then-eq c =
    let first : c.args.combining ≡ first_applicable = search rules in
    rw first c.choose_first.ensures

pub returns : goal.returns
returns c =
    rw (← c.exchanged_for.ensures) (c.choose_denying.ensures ∙ denying_chosen c.args.combining _ (sum_at c.args.s) (sym c.eq.ensures ∙ c.if-eq.false))
