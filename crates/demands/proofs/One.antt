-- Demand 1 holds. Assumes nothing.
use Rattle.dossier.proofs.Rows.{counted-row, refused-row}
use Rattle.rules.proofs.ListSounds.{count-sound, refused-row as refused-rules}
use Rattle.demands.specs.Demand1.{Demand1}
use Rattle.demands.proofs.Requests.{list-refused, list-unchanged, back-refused, back-unchanged, decide-refused, fold-refused, fold-unchanged, judge-refused, fold_for_refused, fold_for_unchanged, judge_for_refused, view-refused, view-unchanged}
use Rattle.demands.proofs.WalkStep.{step-refused, step-unchanged}
use Rattle.demands.proofs.Determined.{definite}

pub demand_1 : Demand1
demand_1 = record {
  definite = definite;
  dossier_accepted = counted-row;
  dossier_refused = refused-row;
  rules-accepted = λ d list rs. count-sound d rs list;
  rules-refused = λ d list rs. refused-rules d rs list;
  list-refused = list-refused;
  back-refused = back-refused;
  decide-refused = decide-refused;
  fold-refused = fold-refused;
  judge-refused = judge-refused;
  fold_for_refused = fold_for_refused;
  judge_for_refused = judge_for_refused;
  view-refused = view-refused;
  step-refused = step-refused;
  list-unchanged = list-unchanged;
  back-unchanged = back-unchanged;
  fold-unchanged = fold-unchanged;
  fold_for_unchanged = fold_for_unchanged;
  view-unchanged = view-unchanged;
  step-unchanged = step-unchanged;
}
