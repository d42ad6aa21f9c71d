-- The view is at most as long as the dossier. Assumes nothing.
use Rattle.std.proofs.Common.{ℕ, ◌≤◌, List, length, arith}
use Rattle.dossier.specs.Bytes.{records, record_at, records_of}
use Rattle.dossier.proofs.Runs.{run_length}
use Rattle.view.specs.View.{IsView}
use Rattle.view.proofs.Keeping.{keeps_few}

-- it has at most as many records
pub view-few : (d : List ℕ) {shown : List (List ℕ)} → IsView d shown → length shown ≤ records d
unfolding records_of
view-few d v = omega (arith, keeps_few v, run_length (record_at d) 0 (records d))
