-- `input::gather` meets its contract: what is kept of a longer input stands for it. Assumes nothing.
use Rattle.std.proofs.Common.{rules}
use Rattle.programs.proofs.Standing.{gathered-front}
use Rattle.programs.proofs.input.gather.Goals as goal

pub returns-clause-gathered : goal.returns-clause-gathered
returns-clause-gathered c = gathered-front _ _ (search rules) c.rest.ensures
