-- Demand 3 holds by the walk, and read with each combining. Assumes nothing.
use Rattle.dossier.specs.Bytes.{elements_of}
use Rattle.dossier.proofs.Sounds.{sound-counted}
use Rattle.rules.specs.declared.kinds.Combining.{Combining}
use Rattle.marks.specs.Marks.{first}
use Rattle.least.proofs.Folds.{minuses-right, first_plain}
use Rattle.least.proofs.Gateways.{minus_listed}
use Rattle.least.proofs.OwnMarks.{asked-counted, own-list, own_verdict, own_ignore, own_list_for, own_verdict_for, own_ignore_for}
use Rattle.demands.specs.Demand3.{walking, combining, Demand3}
use Rattle.demands.proofs.Verdicts.{demand_by}

pub demand_3 : Demand3 walking
demand_3 = demand_by walking (record {
  accepted = sound-counted;
  minuses = λ d s. minuses-right first first_plain (elements_of d);
  lists = own-list;
  judged = own_verdict;
  ignores = own_ignore;
})

pub demand_3_for : (c : Combining) → Demand3 (combining c)
demand_3_for c = demand_by (combining c) (record {
  accepted = asked-counted c;
  minuses = λ d s. minus_listed c (elements_of d) s.order;
  lists = own_list_for c;
  judged = own_verdict_for c;
  ignores = own_ignore_for c;
})
