-- `least::judge` meets its contract: it is the judge for combining 0, and first applicable over the listed rules is the walk. Assumes nothing.
use Rattle.least.proofs.Replies.{judged_of_0}
use Rattle.least.proofs.judge.Goals as goal

pub returns : goal.returns
returns c = judged_of_0 _ _ c.judge_for.ensures
