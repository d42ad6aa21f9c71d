-- The recipient's view: which elements belong in it, what is replied, and what the area then holds. Document 01, "The recipient's view". Assumes nothing: these are definitions.
use Rattle.std.specs.Prelude.{◌≡◌, ℕ, suc, true, List, [], ◌∷◌, length, get_or, Result}
use Rattle.dossier.specs.Elements.{Element, marks_of}
use Rattle.dossier.specs.Bytes.{records_of, joined, elements_of}
use Rattle.dossier.specs.Below.{covers}
use Rattle.dossier.specs.Replies.{afterwards, After, room_for, fronted}
use Rattle.dossier.specs.Reading.{read_of}
use Rattle.dossier.specs.declared.elements.Decision.{Decision}
use Rattle.dossier.specs.declared.elements.Decision.TheVariants.{Permit, None}
use Rattle.marks.specs.Marks.{first}
use Rattle.marks.specs.Walking.{walked}
use Rattle.dossier.specs.declared.Refusal.{Refusal}

-- element i belongs in the view, where the walk over the marks gives these answers: it and all elements above it are permitted
abbrev pub Belongs : List Element → List Decision → ℕ → Type 0
Belongs es answers i = (t : ℕ) → covers es t i ≡ true → get_or answers t None ≡ Permit

-- `out` are exactly those of the records, the first at position i, whose position has P, in their order
pub data Keeps (P : ℕ → Type 0) : ℕ → List (List ℕ) → List (List ℕ) → Type 0 where
  done : {i : ℕ} → Keeps P i [] []
  kept : {i : ℕ} {r : List ℕ} {rs out : List (List ℕ)} → P i → Keeps P (suc i) rs out → Keeps P i (r ∷ rs) (r ∷ out)
  left : {i : ℕ} {r : List ℕ} {rs out : List (List ℕ)} → (P i → ⊥) → Keeps P (suc i) rs out → Keeps P i (r ∷ rs) out

-- the records of the elements that belong, in document order and unchanged
abbrev pub IsView : List ℕ → List (List ℕ) → Type 0
IsView d shown = Keeps (Belongs (elements_of d) (walked first (elements_of d) (marks_of (elements_of d)))) 0 (records_of d) shown

-- of a sound dossier: how many are shown, and they stand at the area's front; or 8, and nothing is written
pub record Viewed (d area : List ℕ) (reply : Result ℕ Refusal) (new : List ℕ) : Type 0 where
  pub shown : List (List ℕ)
  pub view : IsView d shown
  pub replied : reply ≡ room_for (length shown) area
  pub written : new ≡ afterwards reply area (fronted area (joined (λ r. r) shown))

-- 1 to 6, and nothing is written; or the view
abbrev pub Views : List ℕ → List ℕ → Result ℕ Refusal → List ℕ → Type 0
Views d area reply new = After (read_of d) area (Viewed d area) reply new
