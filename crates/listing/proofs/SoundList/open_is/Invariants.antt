-- `listing::SoundList::open_is` meets its contract. The invariant: the rules of the open elements down to depth k are met. Assumes nothing.
use Rattle.rules.specs.Rules.{rules_of}
use Rattle.listing.specs.Inner.{planned}
use Rattle.listing.proofs.Comparing.{Gone}
use Rattle.listing.proofs.SoundList.open_is.Given as goal

abbrev pub invariant-loop-k : goal.invariant-loop-k
invariant-loop-k l = Gone l.self.d.bytes.now (planned l.plan) l.stack.positions l.stack.top l.depth l.from (rules_of l.self.rules.now) l.at l.k
