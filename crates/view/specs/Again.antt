-- What is promised of every view of a sound dossier: what was sent can be read again. Document 01, "The recipient's view". Assumes nothing: these are definitions.
use Rattle.std.specs.Prelude.{◌≡◌, ◌≢◌, ℕ, ◌<◌, List, [], length, get_or, Ok}
use Rattle.dossier.specs.Elements.{marks_of}
use Rattle.dossier.specs.Bytes.{joined, elements_of}
use Rattle.dossier.specs.Reading.{read_of, Sound}
use Rattle.dossier.specs.declared.elements.Decision.TheVariants.{Permit, None}
use Rattle.marks.specs.Marks.{first}
use Rattle.marks.specs.Walking.{walked}

pub record Again (d : List ℕ) (shown : List (List ℕ)) : Type 0 where
  -- the bytes of a view that isn't empty are a sound dossier, and the reader reads as many elements as were shown
  pub sound : 0 < length shown → Sound (joined (λ r. r) shown)
  pub read : 0 < length shown → read_of (joined (λ r. r) shown) ≡ Ok (length shown)
  -- a root that is not permitted, denied or answered none, shows nothing
  pub empty : get_or (walked first (elements_of d) (marks_of (elements_of d))) 0 None ≢ Permit → shown ≡ []
