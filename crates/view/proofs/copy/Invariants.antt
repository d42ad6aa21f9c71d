-- `view::copy` meets its contract. The invariant: what is left to show, written from its place on, gives the whole. Assumes nothing.
use Rattle.std.proofs.Common.{◌≡◌, ◌+◌, ◌*◌, length}
use lib.Seq.{sets}
use Rattle.dossier.specs.Limits.{width}
use Rattle.view.specs.Inner.{memory, shown_of, bytes_of}
use Rattle.view.proofs.Passes.{shown_rest}
use Rattle.view.proofs.copy.Given as goal

abbrev pub invariant-loop-i : goal.invariant-loop-i
invariant-loop-i l =
    (l.to + length (shown_rest (memory l.handed l.limit.depth) l.d l.i) ≡ length (shown_of l.d))
    × (sets l.out (l.to * width) (bytes_of (shown_rest (memory l.handed l.limit.depth) l.d l.i)) ≡ sets l.initial.out 0 (bytes_of (shown_of l.d)))
