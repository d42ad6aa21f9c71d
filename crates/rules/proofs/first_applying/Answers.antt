-- `rules::first_applying` meets its contract. The invariant: what is left to find from rule i on, with the first rule that was kept, which stands before rule i. Assumes nothing.
use Rattle.std.proofs.Common.{◌≡◌, sym, ap, ◌∙◌, arith}
use Rattle.dossier.specs.Bytes.{elements_of}
use Rattle.rules.specs.Rules.{rule_at}
use Rattle.rules.specs.Applying.{applies}
use Rattle.rules.specs.Inner.{settles}
use Rattle.rules.proofs.Search.{applies-here, kept, kept-before, later, within, pass-first, pass-last, pass_on, pass_kept, pass-settled}
use Rattle.rules.proofs.first_applying.Goals as goal
use Rattle.rules.proofs.first_applying.Goals.{After-applies, then-applies+else-settling, else-applies}

-- what `applies` answers is whether rule i applies
here : (s : After-applies)
    → let a = s.args in
    applies (elements_of a.d.now) a.element (rule_at a.rules.now s.loop-i.i) ≡ s.applies.result
here s =
    let a = s.args in
    applies-here (elements_of a.d.now) a.element a.rules.now s.loop-i.i _ _ s.two-target.ensures s.applies.ensures

pub loop-i-init : goal.loop-i-init
loop-i-init c = record { passing = pass-first _ _ _ _; before = tt }

pub returns-then-settling : goal.returns-then-settling
returns-then-settling c =
    let at = c.loop-i in
    let more = c.loop-i-test.true in
    let first = c.unwrap_or.ensures ∙ kept c.args.rules.now at.i at.first more at.invariant.before in
    let settles_here = ap (settles c.args.combining) (sym c.from.ensures) ∙ sym c.settling.ensures ∙ c.if-settling.true in
    record {
      found = rw first (pass-settled _ _ _ _ at.i _ at.invariant.passing more (here (goal.at.returns-then-settling c).After-applies ∙ c.if-applies.true) settles_here);
      settled_there = more;
      first_there = omega (arith, first, more);
    }

pub loop-i-preserved : goal.loop-i-preserved
loop-i-preserved c =
    let at = c.loop-i in
    let more = c.loop-i-test.true in
    let here_is = here (goal.at.loop-i-preserved c).After-applies in
    elim c.if-applies.branch [
      | then-applies+else-settling w ↦ (
          let first = w.unwrap_or.ensures ∙ kept c.args.rules.now at.i at.first more at.invariant.before in
          let settles_not = ap (settles c.args.combining) (sym w.from.ensures) ∙ sym w.settling.ensures ∙ w.if-settling.false in
          rw w.first-is (record {
            passing = rw first (pass_kept _ _ _ _ at.i _ at.invariant.passing more (here_is ∙ w.if-applies.true) settles_not);
            before = rw w.unwrap_or.ensures (kept-before at.i at.first at.invariant.before);
          }))
      | else-applies w ↦ rw w.first-is (record {
        passing = pass_on _ _ _ _ at.i _ at.invariant.passing more (here_is ∙ w.if-applies.false);
        before = later at.i at.first at.invariant.before;
      })
    ]

pub returns : goal.returns
returns c =
    let at = c.loop-i in
    record {
      found = pass-last _ _ _ _ _ _ at.invariant.passing c.loop-i-test.false;
      settled_there = tt;
      first_there = within at.i at.first at.auto.i-end at.invariant.before;
    }
