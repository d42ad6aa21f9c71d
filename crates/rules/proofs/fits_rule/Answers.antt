-- `rules::fits_rule` meets its contract. Assumes nothing.
use Rattle.std.proofs.Common.{le-ltb, lt-ltb, le-leb}
use borrow.Author.Tests.{lt-leb}
use Rattle.dossier.specs.Bytes.{key_of}
use Rattle.rules.specs.ReadingRules.{fits_of}
use Rattle.rules.proofs.fits_rule.Goals as goal

pub returns-then-d-target : goal.returns-then-d-target
unfolding fits_of
returns-then-d-target c = simp (le-ltb _ _ c.if-d-target.true)

pub returns-then-effect-gt1 : goal.returns-then-effect-gt1
unfolding fits_of
returns-then-effect-gt1 c = simp (lt-ltb _ _ c.if-d-target.false, lt-leb _ _ c.if-effect-gt1.true)

pub returns-then-reach-gt1 : goal.returns-then-reach-gt1
unfolding fits_of
returns-then-reach-gt1 c = simp (lt-ltb _ _ c.if-d-target.false, le-leb _ _ c.if-effect-gt1.false, lt-leb _ _ c.if-reach-gt1.true)

pub returns : goal.returns
unfolding fits_of key_of
returns c = simp (c.key.ensures, lt-ltb _ _ c.if-d-target.false, le-leb _ _ c.if-effect-gt1.false, le-leb _ _ c.if-reach-gt1.false)
