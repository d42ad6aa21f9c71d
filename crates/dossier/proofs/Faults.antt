-- What an element is refused for is told by its number, so that `fault`, which promises that number, allows one reply. Assumes nothing.
use Rattle.std.proofs.Common.{◌≡◌, ℕ, ◌==◌, cond, sym, refl, ap, ◌∙◌, Option, Some, None}
use Rattle.dossier.specs.Reading.{fault_number}
use Rattle.dossier.specs.declared.ElementFault.{ElementFault}
use Rattle.dossier.specs.declared.ElementFault.TheVariants.{OutOfOrder as out_of_order, TooDeep as too_deep, BadField as bad_field}

-- what a number tells
told_by : ℕ → Option ElementFault
told_by n = cond (n == 4) (Some out_of_order) (cond (n == 5) (Some too_deep) (cond (n == 6) (Some bad_field) None))

told : (a : Option ElementFault) → told_by (fault_number a) ≡ a
unfolding told_by
told None = refl
told (Some out_of_order) = refl
told (Some too_deep) = refl
told (Some bad_field) = refl

pub fault_unique : (a b : Option ElementFault) → fault_number a ≡ fault_number b → a ≡ b
fault_unique a b e = sym (told a) ∙ ap told_by e ∙ told b
