-- `rules::effect_at` meets its contract: the effect that stands in the rule's bytes. Assumes nothing.
use Rattle.std.proofs.Common.{◌∙◌, ap, le-ltb, lt-ltb}
use Rattle.dossier.specs.Elements.{is}
use Rattle.rules.proofs.Records.{part-effect}
use Rattle.rules.proofs.effect_at.Goals as goal

pub returns-then-rule-lt-WIDTH : goal.returns-then-rule-lt-WIDTH
returns-then-rule-lt-WIDTH c = rw (lt-ltb _ _ c.if-rule-lt-WIDTH.true) at (part-effect _ _ _ _ c.part_at-rule.ensures)

pub returns : goal.returns
returns c = c.from-2.ensures ∙ ap is c.from.ensures ∙ (rw (le-ltb _ _ c.if-rule-lt-WIDTH.false) at (part-effect _ _ _ _ c.part_at-rule.ensures))
