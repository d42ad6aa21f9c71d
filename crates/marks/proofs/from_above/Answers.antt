-- `marks::from_above` meets its contract: a byte past 1 stands for none, as does a depth past the array. Assumes nothing.
use Rattle.std.proofs.Common.{sym, ap, ◌∙◌, arith}
use Rattle.dossier.specs.Elements.{is, decision_of}
use Rattle.marks.proofs.Laws.{above-none, above_at, number-none, number-effect}
use Rattle.marks.proofs.from_above.Goals as goal

pub returns-in_default : goal.returns-in_default
returns-in_default c = sym (above-none _ _ (λ l. omega (arith, c.in_default.ensures.lookup.3)))

pub returns-then-number-gt1 : goal.returns-then-number-gt1
returns-then-number-gt1 c =
    let h = c.in-Some.ensures.lookup in
    sym (above_at _ _ _ (omega (arith, h.3.0)) h.3.0 ∙ ap decision_of (sym (h.3.1 0)) ∙ number-none _ c.if-number-gt1.true)

pub returns : goal.returns
returns c =
    let h = c.in-Some.ensures.lookup in
    c.from.ensures ∙ ap is c.from-effect.ensures
    ∙ sym (above_at _ _ _ (omega (arith, h.3.0)) h.3.0 ∙ ap decision_of (sym (h.3.1 0)) ∙ number-effect _ c.if-number-gt1.false)
