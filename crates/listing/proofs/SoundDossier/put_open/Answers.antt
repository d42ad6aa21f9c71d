-- `listing::SoundDossier::put_open` meets its contract. The invariant: the rules of the open elements down to depth k are written. Assumes nothing.
use Rattle.listing.proofs.Writing.{closed-room, closed-more, closed-end}
use Rattle.listing.proofs.SoundDossier.put_open.Goals as goal

pub put_own-at-requires-clause-room : goal.put_own-at-requires-clause-room
put_own-at-requires-clause-room c =
    rw c.mark-mark.ensures (closed-room _ _ _ _ _ _ _ _ _ _ c.loop-k.invariant c.loop-k-test.true c.requires.room)

pub loop-k-preserved : goal.loop-k-preserved
loop-k-preserved c =
    let e = rw c.mark-mark.ensures at c.put_own-at.ensures in
    closed-more _ _ _ _ _ _ _ _ _ _ c.loop-k.invariant c.loop-k-test.true _ _ (record { area = e.written; place = e.next })

pub returns : goal.returns
returns c =
    let p = closed-end _ _ _ _ _ _ _ _ _ _ c.loop-k.invariant c.loop-k-test.false in record {
      written = p.area;
      next = p.place;
    }
