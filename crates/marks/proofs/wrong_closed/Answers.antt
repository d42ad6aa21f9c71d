-- `marks::wrong_closed` meets its contract. Assumes nothing.
use Rattle.std.proofs.Common.{◌≡◌, Bool, true, false, not, eqb, refl}
use mir.Val.{bool_byte}
use Rattle.marks.specs.Inner.{may_hold}
use Rattle.marks.proofs.wrong_closed.Goals as goal

one : (q : Bool) → eqb (bool_byte (not q)) 0 ≡ q
one true = refl
one false = refl

pub returns : goal.returns
unfolding may_hold
returns c above = one (eqb c.args.x 2)
