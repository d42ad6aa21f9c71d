-- `listing::SoundDossier::put_all` meets its contract. The invariant: before element p the rules listed so far are written, and the stack holds the open elements. Assumes nothing.
use Rattle.listing.specs.Inner.{mark_at}
use Rattle.listing.proofs.Writing.{Writing}
use Rattle.listing.proofs.SoundDossier.put_all.Given as goal

abbrev pub invariant-loop-p : goal.invariant-loop-p
invariant-loop-p l = let d = l.self.bytes.now in Writing d (mark_at d) l.initial.out l.p l.stack.top l.stack.positions l.out l.at
