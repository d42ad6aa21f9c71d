-- `dossier::read` meets its contract. The invariant: what is left to read from record i decides the reply. Assumes nothing.
use Rattle.std.proofs.Common.{◌≡◌, sym, refl, ap, ◌∙◌, arith, le-ltb, lt-ltb, eq-eqb, ne_eqb}
use native.Mathlib.Nat.{sub-zero}
use Rattle.dossier.proofs.Laws.{step-on, step_out, ends, fault-read, numbered, low-next, high_read}
use Rattle.dossier.proofs.Sounds.{free}
use Rattle.dossier.specs.Reading.{low_after, high_after, fault_number, fault_at, read_of}
use Rattle.dossier.proofs.read.Goals as goal
use Rattle.dossier.proofs.read.Goals.{After-fault}

pub returns-then-n-eq0 : goal.returns-then-n-eq0
unfolding read_of
returns-then-n-eq0 c = c.refused.ensures ∙ simp (eq-eqb _ _ c.if-n-eq0.true)

pub returns-then-n-ne0 : goal.returns-then-n-ne0
unfolding read_of
returns-then-n-ne0 c = c.refused-then-n-ne0.ensures ∙ simp (ne_eqb _ _ c.if-n-eq0.false, ne_eqb _ _ c.if-n-ne0.true)

pub returns-then-n-gt-MOST_BYTES : goal.returns-then-n-gt-MOST_BYTES
unfolding read_of
returns-then-n-gt-MOST_BYTES c = c.refused-then-n-gt-MOST_BYTES.ensures ∙ simp (ne_eqb _ _ c.if-n-eq0.false, eq-eqb _ _ c.if-n-ne0.false, lt-ltb _ _ c.if-n-gt-MOST_BYTES.true)

pub loop-i-init : goal.loop-i-init
unfolding read_of low_after high_after
loop-i-init c = (refl, refl, simp (sub-zero, ne_eqb _ _ c.if-n-eq0.false, eq-eqb _ _ c.if-n-ne0.false, le-ltb _ _ c.if-n-gt-MOST_BYTES.false))

-- what `fault` answers is the fault of record i
here : (c : After-fault) → fault_number c.fault.result ≡ fault_at c.args.d.now c.loop-i.i
here c =
    let at = c.loop-i in
    c.fault.ensures ∙ fault-read _ at.i _ _ _ at.invariant.0 at.invariant.1 c.depth-depth.ensures

pub returns-in-Some : goal.returns-in-Some
returns-in-Some c =
    let at = c.loop-i in
    let more = c.loop-i-test.true in
    let faulty = ap fault_number (sym c.in-Some.is) ∙ here (goal.at.returns-in-Some c).After-fault in
    c.refused-in-Some.ensures
    ∙ rw (c.number.ensures ∙ faulty) (sym (step_out _ _ at.i more (λ e. numbered c.in-Some.fault (faulty ∙ e))) ∙ at.invariant.2)

pub overflow_add-high : goal.overflow_add-high
overflow_add-high c = omega (arith, (free _ _ _ (sym c.fault.ensures ∙ ap fault_number c.in_default.is)).shallow)

pub loop-i-preserved : goal.loop-i-preserved
loop-i-preserved c =
    let at = c.loop-i in
    let more = c.loop-i-test.true in
    (low-next _, high_read _ _ _ c.depth-depth.ensures, sym (step-on _ _ at.i more (sym (here (goal.at.loop-i-preserved c).After-fault) ∙ ap fault_number c.in_default.is)) ∙ at.invariant.2)

pub returns : goal.returns
returns c =
    let at = c.loop-i in
    sym (ends _ _ _ at.auto.i-end c.loop-i-test.false) ∙ at.invariant.2
