-- `input::rest` meets its contract. Assumes nothing.
use Rattle.programs.specs.Standing.{CountedOn}
use Rattle.programs.proofs.input.rest.Given as goal

abbrev pub invariant-loop : goal.invariant-loop
invariant-loop l = CountedOn l.most l.total
