-- `listing::SoundList::agrees` meets its contract. The invariant: before element p the rules listed so far are met, and the stack holds the open elements. Assumes nothing.
use Rattle.std.proofs.Common.{arith}
use Rattle.rules.proofs.Records.{rules-length}
use Rattle.listing.proofs.Pass.{may_open}
use Rattle.listing.proofs.Comparing.{meets_to, meets_off, meeting_start, meeting-more, meeting-off, end-off, end-says}
use Rattle.listing.proofs.SoundList.agrees.Goals as goal

pub loop-p-init : goal.loop-p-init
loop-p-init c =
    rw c.empty-stack.ensures.top (meeting_start _ _ c.args.self.now.d.sound _ _ c.empty-stack.ensures.long)

pub open_is-requires-clause-inside : goal.open_is-requires-clause-inside
open_is-requires-clause-inside c = omega (arith, c.loop-p.invariant.inside, rules-length c.args.self.now.rules.now)

pub returns-in_default : goal.returns-in_default
returns-in_default c =
    meeting-off _ _ c.args.self.now.d.sound _ _ _ _ _ c.loop-p.invariant c.loop-p-test.true _ c.depth-depth.ensures
    (meets_off _ _ _ _ c.open_is.ensures c.in_default.is)

pub push-requires : goal.push-requires
push-requires c = may_open _ c.args.self.now.d.sound _ _ c.loop-p-test.true c.depth-depth.ensures

pub loop-p-preserved : goal.loop-p-preserved
loop-p-preserved c =
    let to = meets_to _ _ _ _ _ c.open_is.ensures c.in-Some.is in
    rw (c.push.ensures.top, c.push.ensures.positions)
    (meeting-more _ _ c.args.self.now.d.sound _ _ _ _ _ c.loop-p.invariant c.loop-p-test.true _ c.depth-depth.ensures _ to.0 to.1)

pub open_is-requires-2-clause-inside : goal.open_is-requires-2-clause-inside
open_is-requires-2-clause-inside c = omega (arith, c.loop-p.invariant.inside, rules-length c.args.self.now.rules.now)

pub returns-in-None : goal.returns-in-None
returns-in-None c =
    end-off _ _ c.args.self.now.d.sound _ _ _ _ _ c.loop-p.invariant c.loop-p-test.false (meets_off _ _ _ _ c.open_is-2.ensures c.in-None.is)

pub returns-in-Some-open_is : goal.returns-in-Some-open_is
returns-in-Some-open_is c =
    let to = meets_to _ _ _ _ _ c.open_is-2.ensures c.in-Some-open_is.is in
    end-says _ _ c.args.self.now.d.sound _ _ _ _ _ c.loop-p.invariant c.loop-p-test.false _ to.0 to.1 _ (rules-length c.args.self.now.rules.now)
