-- `lines::put_rules` meets its contract. The loop's invariant: the lines of the other rules are still to be put. Assumes nothing.
use Rattle.std.proofs.Common.{drop}
use Rattle.dossier.specs.Bytes.{joined}
use Rattle.rules.specs.Rules.{rules_of}
use Rattle.programs.proofs.Putting.{Left}
use Rattle.front.specs.Printing.{rules_text}
use Rattle.front.proofs.RuleLines.{line_alone}
use Rattle.front.proofs.lines.put_rules.Given as goal

abbrev pub invariant-loop-rule : goal.invariant-loop-rule
invariant-loop-rule l = Left l.fn.out 0 (rules_text (rules_of l.fn.rules)) l.out l.to (joined line_alone (drop l.rule-index l.records))
