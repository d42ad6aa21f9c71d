-- `capi::nv_read` meets its contract. Assumes nothing.
use Rattle.std.proofs.Common.{ap, ◌∙◌}
use Rattle.capi.specs.Packed.{packed_reply}
use Rattle.capi.proofs.nv_read.Goals as goal

pub returns : goal.returns
returns c = c.pack.ensures ∙ ap packed_reply c.read.ensures
