-- `rules::first_applying` meets its contract. The invariant: what is left to find from rule i on, with the first rule that was kept, which stands before rule i. Assumes nothing.
use Rattle.std.proofs.Common.{◌<◌, IfSome}
use Rattle.dossier.specs.Bytes.{elements_of}
use Rattle.rules.specs.Inner.{place_in}
use Rattle.rules.proofs.Search.{Passing}
use Rattle.rules.proofs.first_applying.Given as goal

abbrev pub invariant-loop-i : goal.invariant-loop-i
invariant-loop-i l = record {
  passing : Passing l.combining (elements_of l.d) l.element l.rules l.i (place_in l.rules l.first);
  before : IfSome l.first (λ k. k < l.i);
}
