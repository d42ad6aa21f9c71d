-- `listing::SoundList::open_is` meets its contract. The invariant: the rules of the open elements down to depth k are met. Assumes nothing.
use Rattle.std.proofs.Common.{◌+◌, ◌-◌, get_or, sym, ◌∙◌, arith}
use Rattle.dossier.specs.Bytes.{element_at}
use Rattle.dossier.proofs.Sounds.{counted-sound}
use Rattle.rules.specs.Rules.{rules_of}
use Rattle.rules.proofs.Records.{rules-length}
use Rattle.listing.specs.Inner.{planned}
use Rattle.listing.proofs.Counts.{own-length}
use Rattle.listing.proofs.Comparing.{says_yes, says_no, list-sound, Gone, gone_none, gone-more, gone-off, gone-end}
use Rattle.listing.proofs.SoundList.open_is.Goals as goal
use Rattle.listing.proofs.SoundList.open_is.Goals.{After-cost-at}

pub loop-k-init : goal.loop-k-init
loop-k-init c =
    gone_none _ _ _ _ _ _ _ (omega (arith, rules-length c.args.self.now.rules.now, c.requires.inside))

pub bounds-plan-q : goal.bounds-plan-q
bounds-plan-q c =
    omega (arith, (counted-sound _ _ c.args.self.now.d.sound).few, c.requires.stacked.inside (c.loop-k.k - 1) (omega (arith, c.loop-k.invariant.down.low, c.loop-k-test.true)))

pub returns-then-not-own_is : goal.returns-then-not-own_is
returns-then-not-own_is c = gone-off _ _ _ _ _ _ _ _ _ c.loop-k.invariant c.loop-k-test.true (says_no c.own_is.result c.if-not-own_is.true c.own_is.ensures)

-- its rules are met too
met : (c : After-cost-at)
    → let a = c.args in
    let l = a.self.now in
    Gone l.d.bytes.now (planned a.plan.now) a.stack.now.positions a.stack.now.top a.depth a.from (rules_of l.rules.now) (c.loop-k.at + c.cost-at.result) (c.loop-k.k - 1)
met c =
    let t = c.loop-k in
    let q = get_or c.args.stack.now.positions (t.k - 1) 0 in
    let e = c.cost-at.ensures ∙ sym (own-length q (element_at c.args.self.now.d.bytes.now q) (planned c.args.plan.now q)) in
    rw e (gone-more _ _ _ _ _ _ _ _ _ t.invariant c.loop-k-test.true (says_yes c.own_is.result c.if-not-own_is.false c.own_is.ensures))

pub overflow_add-at : goal.overflow_add-at
overflow_add-at c =
    let rs = c.args.self.now in
    omega (arith, (met (goal.at.overflow_add-at c).After-cost-at).inside, rules-length rs.rules.now, (list-sound _ _ rs.sound).few)

pub loop-k-preserved : goal.loop-k-preserved
loop-k-preserved c = met (goal.at.loop-k-preserved c).After-cost-at

pub returns : goal.returns
returns c = gone-end _ _ _ _ _ _ _ _ _ c.loop-k.invariant c.loop-k-test.false
