-- `lines::put_rules` meets its contract. The loop's invariant: the lines of the other rules are still to be put. Assumes nothing.
use Rattle.std.proofs.lemmas.List.{drop_all}
use Rattle.programs.proofs.Putting.{left_all, put_next, left-more, left-none, left-room}
use Rattle.front.proofs.RuleLines.{lines_first, rules_lines}
use Rattle.front.proofs.lines.put_rules.Goals as goal

pub loop-rule-init : goal.loop-rule-init
loop-rule-init c =
    let text = rules_lines _ _ c.as_chunks.ensures.front c.as_chunks.ensures.front_len in
    let start = left_all (rw text at c.requires) in
    let named = put_next _ _ c.put_word-named.ensures.place c.put_word-named.ensures.written start in
    let counted = put_next _ _ c.put_number-counted.ensures.place c.put_number-counted.ensures.written named in
    rw text (put_next _ _ c.put_word-to.ensures.place c.put_word-to.ensures.written counted)

pub put_rule-to-requires : goal.put_rule-to-requires
put_rule-to-requires c = left-room _ (rw (lines_first _ _ c.loop-rule-test.true) at c.loop-rule.invariant)

pub loop-rule-preserved : goal.loop-rule-preserved
loop-rule-preserved c = left-more (rw (lines_first _ _ c.loop-rule-test.true) at c.loop-rule.invariant) c.put_rule-to.ensures

pub returns : goal.returns
returns c = left-none (rw (drop_all c.loop-rule.rule-index c.as_chunks.result.0.now c.loop-rule-test.false) at c.loop-rule.invariant)
