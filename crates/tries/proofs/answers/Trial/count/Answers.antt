-- `answers::Trial::count`: seven marks set two rules each at most. Assumes nothing.
use Rattle.std.proofs.Common.{rules, arith}
use Rattle.std.proofs.lemmas.Iterator.{YieldsList-from_slice}
use Rattle.std.proofs.lemmas.Iterator.Adapters.{fits_from_length, at_most_from_yields_List}
use Rattle.tries.proofs.answers.Trial.count.Goals as goal

pub sum-requires-clause-fits : goal.sum-requires-clause-fits
sum-requires-clause-fits g c = fits_from_length _ _ 7 _ (at_most_from_yields_List (YieldsList-from_slice c.args.marks.now (search rules)) (search rules)) c.map.ensures.closure (omega arith) (λ x r q k. search rules)
