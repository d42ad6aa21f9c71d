-- `capi::packing::pack_verdict` meets its contract: each arm is given which verdict it is. Assumes nothing.
use Rattle.std.proofs.Common.{sym, ap, arith}
use Rattle.capi.specs.Packed.{packed_verdict}
use Rattle.capi.proofs.Told.{decision-small}
use Rattle.capi.proofs.packing.pack_verdict.Goals as goal

pub overflow_mul-result-in-Wrong-2 : goal.overflow_mul-result-in-Wrong-2
overflow_mul-result-in-Wrong-2 c = omega (arith, decision-small c.in-Wrong.a)

pub overflow_add-result-in-Wrong-2 : goal.overflow_add-result-in-Wrong-2
overflow_add-result-in-Wrong-2 c = omega (arith, decision-small c.in-Wrong.a)

pub returns-in-Least : goal.returns-in-Least
returns-in-Least c = sym (ap packed_verdict c.in-Least.is)

pub returns-in-Longer : goal.returns-in-Longer
returns-in-Longer c = rw c.in-Longer.is (omega arith)

pub returns-in-Wrong : goal.returns-in-Wrong
returns-in-Wrong c = rw (c.from.ensures, c.in-Wrong.is)
