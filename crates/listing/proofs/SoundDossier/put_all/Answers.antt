-- `listing::SoundDossier::put_all` meets its contract. The invariant: before element p the rules listed so far are written, and the stack holds the open elements. Assumes nothing.
use Rattle.listing.proofs.Pass.{may_open}
use Rattle.listing.proofs.Writing.{writing_start, writing-room, writing_more, end-room, writing-end}
use Rattle.listing.proofs.SoundDossier.put_all.Goals as goal

pub loop-p-init : goal.loop-p-init
loop-p-init c =
    rw c.empty-stack.ensures.top (writing_start _ _ c.args.self.now.sound _ _ c.empty-stack.ensures.long)

pub put_open-at-requires-clause-room : goal.put_open-at-requires-clause-room
put_open-at-requires-clause-room c =
    writing-room _ _ c.args.self.now.sound _ _ _ _ _ _ c.loop-p.invariant c.loop-p-test.true _ c.depth-depth.ensures c.requires

pub push-requires : goal.push-requires
push-requires c = may_open _ c.args.self.now.sound _ _ c.loop-p-test.true c.depth-depth.ensures

pub loop-p-preserved : goal.loop-p-preserved
loop-p-preserved c =
    let e = c.put_open-at.ensures in
    rw (c.push.ensures.top, c.push.ensures.positions)
    (writing_more _ _ c.args.self.now.sound _ _ _ _ _ _ c.loop-p.invariant c.loop-p-test.true _ c.depth-depth.ensures _ _ (record { area = e.written; place = e.next }))

pub put_open-requires-clause-room : goal.put_open-requires-clause-room
put_open-requires-clause-room c =
    end-room _ _ c.args.self.now.sound _ _ _ _ _ _ c.loop-p.invariant c.loop-p-test.false c.requires

pub returns : goal.returns
returns c =
    let e = c.put_open.ensures in
    writing-end _ _ c.args.self.now.sound _ _ _ _ _ _ c.loop-p.invariant c.loop-p-test.false _ _ (record { area = e.written; place = e.next })
