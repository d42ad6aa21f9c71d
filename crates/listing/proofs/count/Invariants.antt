-- `listing::count` meets its contract. The invariant: the sum so far, with what the elements from i on set, is what all set, and is at most two for each element passed. Assumes nothing.
use Rattle.std.proofs.Common.{◌≡◌, ◌+◌, ◌-◌, ◌*◌, ◌≤◌, length}
use Rattle.listing.specs.Area.{listed_of}
use Rattle.listing.proofs.Costs.{costs_from}
use Rattle.listing.proofs.count.Given as goal

abbrev pub invariant-loop-i : goal.invariant-loop-i
invariant-loop-i l = (l.sum ≤ 2 * l.i) × (l.sum + costs_from l.d l.i (l.i-end - l.i) ≡ length (listed_of l.d))
