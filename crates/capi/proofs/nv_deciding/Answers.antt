-- `capi::nv_deciding` meets its contract. Assumes nothing.
use Rattle.capi.proofs.Parts.{copied_part}
use Rattle.capi.proofs.nv_deciding.Goals as goal

pub returns : goal.returns
returns c = let r = copied_part _ _ _ _ _ _ c.deciding.ensures c.put_part.ensures in record { replied = r.0; written = r.1 }
