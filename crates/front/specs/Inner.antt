-- What the functions inside the program promise each other. A reader of what it prints may skip it. Assumes nothing: these are definitions.
use Rattle.std.specs.Prelude.{ℕ, ◌+◌, ◌*◌, ◌≤◌, List, length, take}
use Rattle.dossier.specs.Limits.{most_elements}
use Rattle.dossier.specs.Reading.{Sound}
use Rattle.listing.specs.Area.{listed_of}
use Rattle.front.specs.Printing.{Printed}

-- the most bytes that are printed: a line has at most 17, and the line before them or a refusal has fewer than 80
abbrev pub most_text : ℕ
most_text = most_elements * 17 + 80

-- a dossier is sound, and its marks list at most as many rules as a dossier may have elements
pub record Short (d : List ℕ) : Type 0 where
  pub sound : Sound d
  pub few : length (listed_of d) ≤ most_elements

-- the first `to` bytes of the area are what is printed of the dossier
pub record Answered (d out : List ℕ) (to : ℕ) : Type 0 where
  pub within : to ≤ length out
  pub printed : Printed d (take to out)
