-- `rules::part_at` meets its contract. Assumes nothing.
use Rattle.std.proofs.Common.{sym, ◌∙◌, arith}
use Rattle.rules.proofs.Records.{house_record, recipient_record, both-past}
use Rattle.rules.proofs.part_at.Goals as goal

pub returns-in_default : goal.returns-in_default
returns-in_default c = rw c.in_default.is (sym (both-past _ _ _ (omega arith)))

pub returns-then-place-count : goal.returns-then-place-count
returns-then-place-count c = rw c.in-Some.is (c.part.ensures ∙ sym (house_record _ _ _ c.if-place-count.true))

pub returns : goal.returns
returns c = rw c.in-Some.is (c.part-2.ensures ∙ sym (recipient_record _ _ _ c.if-place-count.false))
