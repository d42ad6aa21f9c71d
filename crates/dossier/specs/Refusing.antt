-- The order of refusals: "where several conditions hold, the first in the order below is given". A request states its refusals as conditions, one before the other. Document 01, "Refusal numbers". Assumes nothing: these are definitions.
use Rattle.std.specs.Prelude.{◌≡◌, ℕ, ◌*◌, ◌<◌, List, length}
use Rattle.dossier.specs.Limits.{width}
use Rattle.dossier.specs.Table.{Row}
use Rattle.dossier.specs.declared.Refusal.{Refusal}

-- which refusals are to be given
abbrev pub Refusals : Type 1
Refusals = Refusal → Type 0

-- this number, list and position, where P holds
abbrev pub row : ℕ → ℕ → ℕ → Type 0 → Refusals
row number list position P f = (f ≡ record { number = number; list = list; position = position }) × P

-- the refusals of P; where there is none of these, those of Q
pub data ◌before◌ (P Q : Refusals) (f : Refusal) : Type 0 where
  first : P f → (P before Q) f
  later : ((g : Refusal) → P g → ⊥) → Q f → (P before Q) f

infixr 20 ◌before◌
-- ---- rows that many requests have

-- 1 to 6, of a dossier's own bytes
abbrev pub in_elements : List ℕ → Refusals
in_elements d f = Row d f.number f.list f.position

-- 8: the output area is shorter than the records of w bytes that are to be written; the same of a dossier's or a rule list's
abbrev pub too_short_by : ℕ → ℕ → List ℕ → Refusals
too_short_by w n area = row 8 0 0 (length area < n * w)

abbrev pub too_short : ℕ → List ℕ → Refusals
too_short = too_short_by width
