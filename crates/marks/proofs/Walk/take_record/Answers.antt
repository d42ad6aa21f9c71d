-- `marks::Walk::take_record` meets its contract: at each `return` the tests that led there say how the record is taken. Assumes nothing.
use Rattle.std.proofs.Common.{◌≡◌, sym, ap, ◌∙◌}
use Rattle.dossier.proofs.Laws.{numbered}
use Rattle.dossier.proofs.Sounds.{free}
use Rattle.dossier.specs.Reading.{fault_number}
use Rattle.marks.proofs.Takes.{fault_next, fault_next_lem, take_short, take-full, take-faulty, take-good, refused-is}
use Rattle.marks.proofs.Walk.take_record.Goals as goal
use Rattle.marks.proofs.Walk.take_record.Goals.{After-fault}

pub returns-then-element-ne-WIDTH : goal.returns-then-element-ne-WIDTH
returns-then-element-ne-WIDTH c = refused-is _ 2 0 c.refused.ensures ∙ sym (take_short _ _ c.if-element-ne-WIDTH.true)

pub returns-then-self-ge-MOST : goal.returns-then-self-ge-MOST
returns-then-self-ge-MOST c =
    refused-is _ 3 0 c.refused-then-self-ge-MOST.ensures ∙ sym (take-full _ _ c.if-element-ne-WIDTH.false c.if-self-ge-MOST.true)

-- the number is that of the record's fault
faulted : (c : After-fault) → fault_number c.fault.result ≡ fault_next c.args.self.now c.args.element.now
faulted c = fault_next_lem c.args.self.now _ c.next_low-low.ensures c.opened-high.ensures.next c.depth-depth.ensures c.fault.ensures

pub returns-in-Some : goal.returns-in-Some
returns-in-Some c =
    let number = c.number.ensures ∙ ap fault_number (sym c.in-Some.is) ∙ faulted (goal.at.returns-in-Some c).After-fault in
    refused-is _ _ _ c.refused-in-Some.ensures
    ∙ sym (take-faulty _ _ c.if-element-ne-WIDTH.false c.if-self-ge-MOST.false number (λ e. numbered c.in-Some.fault (sym c.number.ensures ∙ e)))

pub accepted_record-requires : goal.accepted_record-requires
accepted_record-requires c = (
  (free _ _ _ (sym c.fault.ensures ∙ ap fault_number c.in_default.is)).shallow,
  c.if-self-ge-MOST.false,
)

pub returns : goal.returns
returns c =
    let none = ap fault_number c.in_default.is in
    c.accepted_record.ensures ∙ rw c.depth-depth.ensures (sym (take-good _ _ c.if-element-ne-WIDTH.false c.if-self-ge-MOST.false (faulted (goal.at.returns c).After-fault) none))
