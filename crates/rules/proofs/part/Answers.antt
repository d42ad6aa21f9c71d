-- `rules::part` meets its contract. Assumes nothing.
use Rattle.std.proofs.Common.{sym, refl}
use Rattle.rules.proofs.Records.{part_in, record_out}
use Rattle.rules.proofs.part.Goals as goal

pub returns-then-i-rules : goal.returns-then-i-rules
returns-then-i-rules c = part_in _ _ _ _ c.if-i-rules.true refl refl

pub returns-else-i-rules : goal.returns-else-i-rules
returns-else-i-rules c = sym (record_out _ _ c.if-i-rules.false)
