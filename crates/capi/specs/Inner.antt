-- What the functions inside promise each other. A reader of what the C functions promise may skip this file. Assumes nothing: these are definitions.
use Rattle.std.specs.Prelude.{ℕ, List, cond, length, ◌==◌}
use Rattle.dossier.specs.Limits.{width}

-- one thing where the part is a whole record, and another where it is not
abbrev pub if_whole {ℓ} : {A : Type ℓ} → List ℕ → A → A → A
if_whole part whole other = cond (length part == width) whole other
