-- `marks::Walk::could_be_left` meets its contract. Assumes nothing.
use Rattle.std.proofs.Common.{ℕ, sym, ap, ◌∙◌, arith}
use Rattle.marks.specs.Inner.{hands_well}
use Rattle.marks.proofs.Laws.{counts_sure, open_few, left_not, left_is}
use Rattle.marks.proofs.Walk.could_be_left.Goals as goal

pub returns-then-not-counts_well : goal.returns-then-not-counts_well
returns-then-not-counts_well c = sym (left_not _ _ c.counts_well.ensures c.if-not-counts_well.true)

pub opened-requires : goal.opened-requires
opened-requires c = let t = c.counts_well in counts_sure _ _ (sym t.ensures ∙ c.if-not-counts_well.false)

pub hands_well-requires : goal.hands_well-requires
hands_well-requires c =
    let t = c.counts_well in
    let w = c.args.self.now in
    let few = open_few w.depth w.taken (counts_sure _ _ (sym t.ensures ∙ c.if-not-counts_well.false)) in
    omega (arith, c.opened.ensures.opened, few)

pub returns : goal.returns
returns c =
    let w = c.args.self.now in
    let t = c.counts_well in
    c.hands_well.ensures
    ∙ ap (λ (o : ℕ). hands_well o 2 w.handed) c.opened.ensures.opened
    ∙ sym (left_is _ _ t.ensures c.if-not-counts_well.false)
