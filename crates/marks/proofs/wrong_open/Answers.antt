-- `marks::wrong_open` meets its contract: of the two tests one fails exactly where the depth can hold the value. Assumes nothing.
use Rattle.std.proofs.Common.{◌≡◌, ℕ, Bool, true, false, not, ◌||◌, eqb, ltb, leb, bit_and, refl, ltb-false, ltb-true, le-leb}
use mir.Val.{bool_byte}
use borrow.Author.Tests.{lt-leb}
use Rattle.marks.specs.Inner.{may_hold}
use Rattle.marks.proofs.wrong_open.Goals as goal

both : (p q : Bool) → eqb (bit_and (bool_byte p) (bool_byte (not q))) 0 ≡ (not p || q)
both true true = refl
both true false = refl
both false true = refl
both false false = refl

few : (x : ℕ) → leb x 1 ≡ not (ltb 1 x)
few x = go (ltb 1 x) refl
  where
    go : (b : Bool) → ltb 1 x ≡ b → leb x 1 ≡ not b
    go true e = lt-leb _ _ (ltb-true 1 x e)
    go false e = le-leb _ _ (ltb-false 1 x e)

pub returns : goal.returns
unfolding may_hold
returns c = rw (few c.args.x) (both (ltb 1 c.args.x) (eqb c.args.x c.args.above))
