-- `capi::nv_list` meets its contract. Assumes nothing.
use Rattle.std.proofs.Common.{ap, ◌∙◌}
use Rattle.capi.specs.Packed.{packed_reply}
use Rattle.capi.proofs.nv_list.Goals as goal

pub returns : goal.returns
returns c = record {
  replied = c.pack.ensures ∙ ap packed_reply c.list.ensures.replied;
  written = c.list.ensures.written;
}
