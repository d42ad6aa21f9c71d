-- `view::count` meets its contract. The invariant: what is counted and what is left to show make up the whole. Assumes nothing.
use Rattle.std.proofs.Common.{◌≡◌, ◌+◌, ◌≤◌, length}
use Rattle.view.specs.Inner.{memory, shown_of}
use Rattle.view.proofs.Passes.{shown_rest}
use Rattle.view.proofs.count.Given as goal

abbrev pub invariant-loop-i : goal.invariant-loop-i
invariant-loop-i l = (l.sum ≤ l.i) × (l.sum + length (shown_rest (memory l.handed l.limit.depth) l.d l.i) ≡ length (shown_of l.d))
