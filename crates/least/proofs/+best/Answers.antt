-- `least::best` meets its contract. Assumes nothing.
use Rattle.std.proofs.Common.{◌≡◌, ℕ, ◌+◌, ◌<◌, ◌≤◌, List, ap, ◌∙◌, subst, ap₂, arith}
use Rattle.dossier.specs.Limits.{most_elements}
use Rattle.dossier.specs.Bytes.{records}
use Rattle.dossier.specs.Reading.{Sound}
use Rattle.least.specs.declared.choosing.Sums.{Sums}
use Rattle.least.specs.declared.Branch.{Branch}
use Rattle.least.specs.declared.choosing.Chosen.{Chosen}
use Rattle.dossier.specs.Forest.{forest_below}
use Rattle.least.specs.Prices.{wrong_cost, sums}
use Rattle.least.specs.Inner.{gateway_of, element_for, sum_at, plus_of, branch_of, chosen_at, Planned}
use Rattle.least.proofs.Branches.{Summed, start, turn, over-end, over-out, small}
use Rattle.least.proofs.Plans.{planned-none, planned-more, planned-first}
use Rattle.least.proofs.+best.Goals as goal
use Rattle.least.proofs.+best.Goals.{After-best-b, else-loop-p-test, then-loop-p-test+then-depth}

-- two depths, once they are read
deeper : {x y k l : ℕ} → x ≡ k → y ≡ l → x < y → k < l
deeper p q h = omega arith

no_deeper : {x y k l : ℕ} → x ≡ k → y ≡ l → y ≤ x → l ≤ k
no_deeper p q h = omega arith

-- a sound dossier has at most the most elements
few-in : {d : List ℕ} → Sound d → records d ≤ most_elements
few-in s = omega (arith, s.few)

abbrev as_branch : Sums → ℕ → Branch
as_branch s n = record { sums = s; next = n }

pub loop-p-init : goal.loop-p-init
loop-p-init t c = (start _ _ _ _ c.requires.there, planned-none _ _ _ _ _)

pub overflow_sub-left : goal.overflow_sub-left
overflow_sub-left t c = omega (arith, c.requires.sound.shallow c.args.at c.requires.there)

pub best-b-requires : goal.best-b-requires
best-b-requires t c =
    let ready = c.requires in
    let there = c.loop-p-test.true in
    let deep = deeper c.depth-in-loop-p.ensures c.depth.ensures c.if-depth.false in
    let shallow = ready.sound.shallow c.args.at ready.there in
    let kept = c.loop-p.invariant.1.long in
    (omega arith, record { sound = ready.sound; there = there; enough = omega arith; room = omega arith })

-- a child's branch is summed
summed-next : (t : ℕ) (c : After-best-b t)
    → Summed
    c.args.combining
    (element_for c.args.combining c.args.d.now)
    (records c.args.d.now)
    c.args.at
    c.best-b.result.next
    (plus_of c.loop-p.sums c.best-b.result.sums)
summed-next t c =
    rw c.best-b.ensures.summed
    (turn _ _ _ _ _ _ c.loop-p.invariant.0 c.loop-p-test.true
    (deeper c.depth-in-loop-p.ensures c.depth.ensures c.if-depth.false))

pub add-sums-requires : goal.add-sums-requires
add-sums-requires t c = small _ _ _ _ _ _ (summed-next t (goal.at.add-sums-requires t c).After-best-b) (few-in c.requires.sound)

pub loop-p-smaller : goal.loop-p-smaller
loop-p-smaller t c = omega (arith, ap (λ (b : Branch). b.next) c.best-b.ensures.summed)

pub loop-p-preserved : goal.loop-p-preserved
loop-p-preserved t c =
    let inv = c.loop-p.invariant in
    let next = ap (λ (b : Branch). b.next) c.best-b.ensures.summed in (
      rw c.add-sums.ensures (summed-next t (goal.at.loop-p-preserved t c).After-best-b),
      rw c.best-b.ensures.summed (planned-more _ _ _ _ _ _ _ _ _ inv.0.passed.low (omega arith) inv.1 c.best-b.ensures.planned),
    )

pub choose-chosen-requires : goal.choose-chosen-requires
choose-chosen-requires t c =
    small _ _ _ _ _ _ c.loop-p.invariant.0 (few-in c.requires.sound)

pub returns : goal.returns
returns t c =
    let d = c.args.d.now in
    let at = c.args.at in
    let inv = c.loop-p.invariant in
    let G = c.args.combining in
    let over : (sum_at c.loop-p.sums ≡ sums (gateway_of G) wrong_cost (forest_below (element_for G d) (records d) at)) × (c.loop-p.p ≡ (branch_of G (element_for G d) (records d) at).next) =
    elim c.loop-p-test.branch [
      | else-loop-p-test w ↦ over-end _ _ _ _ _ _ inv.0 w.loop-p-test.false
      | then-loop-p-test+then-depth w ↦ over-out _ _ _ _ _ _ inv.0 w.loop-p-test.true (no_deeper w.depth-in-loop-p.ensures w.depth.ensures w.if-depth.true)
    ] in
    let chosen : c.choose-chosen.result ≡ chosen_at G (element_for G d) (records d) at = c.choose-chosen.ensures ∙ rw (c.from.ensures, over.0) in
    let planned = subst (λ (n : ℕ). Planned G (element_for G d) (records d) (at + 1) n c.args.plan.now c.loop-p.plan) over.1 inv.1 in record {
      summed = ap₂ as_branch (ap (λ (x : Chosen). x.sums) chosen) over.1;
      planned = planned-first _ _ _ _ _ _ _ _ (omega arith) (omega arith) (ap (λ (x : Chosen). x.marks) chosen) planned;
    }
