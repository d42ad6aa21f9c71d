-- `rules::read_rules` meets its contract. The invariant: what is left to read from rule i on decides the reply. Assumes nothing.
use Rattle.std.proofs.Common.{◌≡◌, ◌-◌}
use Rattle.rules.specs.ReadingRules.{first_faulty, read_rules_of}
use Rattle.rules.proofs.read_rules.Given as goal

abbrev pub invariant-loop-i : goal.invariant-loop-i
invariant-loop-i l = (first_faulty l.d l.list l.rules l.i (l.count - l.i) ≡ read_rules_of l.d l.list l.rules)
