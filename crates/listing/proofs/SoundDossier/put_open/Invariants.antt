-- `listing::SoundDossier::put_open` meets its contract. The invariant: the rules of the open elements down to depth k are written. Assumes nothing.
use Rattle.listing.specs.Inner.{mark_at}
use Rattle.listing.proofs.Writing.{Closed}
use Rattle.listing.proofs.SoundDossier.put_open.Given as goal

abbrev pub invariant-loop-k : goal.invariant-loop-k
invariant-loop-k l = let d = l.self.bytes.now in Closed d (mark_at d) l.stack.positions l.stack.top l.depth l.from l.initial.out l.out l.at l.k
