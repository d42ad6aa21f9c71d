-- `rules::read_rules` meets its contract. The invariant: what is left to read from rule i on decides the reply. Assumes nothing.
use Rattle.std.proofs.Common.{◌≡◌, sym, ◌∙◌, le-ltb, lt-ltb, eq-eqb, ne_eqb}
use native.Mathlib.Nat.{sub-zero}
use Rattle.rules.specs.ReadingRules.{fits_at, read_rules_of}
use Rattle.rules.proofs.FirstFaulty.{faulty-on, faulty-here, faulty-none, fits-here}
use Rattle.rules.proofs.read_rules.Goals as goal
use Rattle.rules.proofs.read_rules.Goals.{After-fits_rule}

pub returns-then-n-ne0 : goal.returns-then-n-ne0
unfolding read_rules_of
returns-then-n-ne0 c = c.refused.ensures ∙ simp (ne_eqb _ _ c.if-n-ne0.true)

pub returns-then-n-gt-MOST_BYTES : goal.returns-then-n-gt-MOST_BYTES
unfolding read_rules_of
returns-then-n-gt-MOST_BYTES c = c.refused-then-n-gt-MOST_BYTES.ensures ∙ simp (eq-eqb _ _ c.if-n-ne0.false, lt-ltb _ _ c.if-n-gt-MOST_BYTES.true)

pub loop-i-init : goal.loop-i-init
unfolding read_rules_of
loop-i-init c = simp (sub-zero, eq-eqb _ _ c.if-n-ne0.false, le-ltb _ _ c.if-n-gt-MOST_BYTES.false)

-- what `fits_rule` answers is whether rule i fits
here : (s : After-fits_rule)
    → let a = s.args in
    fits_at a.d.now a.rules.now s.loop-i.i ≡ s.fits_rule.result
here s =
    fits-here _ _ s.loop-i.i _ _ _ s.loop-i-test.true s.two-target.ensures s.key-key.ensures s.fits_rule.ensures

pub loop-i-preserved : goal.loop-i-preserved
loop-i-preserved c =
    let at = c.loop-i in
    sym (faulty-on _ _ _ _ at.i c.loop-i-test.true (here (goal.at.loop-i-preserved c).After-fits_rule ∙ c.if-not-fits_rule.false)) ∙ at.invariant

pub returns-then-not-fits_rule : goal.returns-then-not-fits_rule
returns-then-not-fits_rule c =
    let at = c.loop-i in
    c.refused-then-not-fits_rule.ensures ∙ sym (faulty-here _ _ _ _ at.i c.loop-i-test.true (here (goal.at.returns-then-not-fits_rule c).After-fits_rule ∙ c.if-not-fits_rule.true)) ∙ at.invariant

pub returns : goal.returns
returns c = sym (faulty-none _ _ _ _ _ c.loop-i.auto.i-end c.loop-i-test.false) ∙ c.loop-i.invariant
