-- `least::fold` meets its contract: it is the folder for combining 0, and first applicable over the listed rules is the walk. Assumes nothing.
use Rattle.least.proofs.Replies.{folded_of_0}
use Rattle.least.proofs.fold.Goals as goal

pub returns : goal.returns
returns c = folded_of_0 _ _ _ c.fold_for.ensures
