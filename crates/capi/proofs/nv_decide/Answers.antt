-- `capi::nv_decide` meets its contract. Assumes nothing.
use Rattle.std.proofs.Common.{ap, ◌∙◌}
use Rattle.capi.specs.Packed.{packed_answer}
use Rattle.capi.proofs.nv_decide.Goals as goal

pub returns : goal.returns
returns c = c.pack.ensures ∙ ap packed_answer c.decide.ensures.replied
