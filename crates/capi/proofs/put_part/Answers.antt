-- `capi::put_part` meets its contract. Assumes nothing.
use Rattle.std.proofs.Common.{refl, eq-eqb, ne_eqb}
use Rattle.capi.proofs.put_part.Goals as goal

pub returns-then-part-ne-WIDTH : goal.returns-then-part-ne-WIDTH
returns-then-part-ne-WIDTH c = simp (ne_eqb _ _ c.if-part-ne-WIDTH.true) (refl, refl)

pub returns : goal.returns
returns c =
    let e = c.if-part-ne-WIDTH.false in
    simp (eq-eqb _ _ e) (refl, c.copy_from_slice.ensures.after)
