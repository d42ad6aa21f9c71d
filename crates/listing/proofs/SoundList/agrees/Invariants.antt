-- `listing::SoundList::agrees` meets its contract. The invariant: before element p the rules listed so far are met, and the stack holds the open elements. Assumes nothing.
use Rattle.rules.specs.Rules.{rules_of}
use Rattle.listing.specs.Inner.{planned}
use Rattle.listing.proofs.Comparing.{Meeting}
use Rattle.listing.proofs.SoundList.agrees.Given as goal

abbrev pub invariant-loop-p : goal.invariant-loop-p
invariant-loop-p l = Meeting l.self.d.bytes.now (planned l.plan) (rules_of l.self.rules.now) l.p l.stack.top l.stack.positions l.at
