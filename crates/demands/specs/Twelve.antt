-- The twelve cases tried by hand that are proved, as one table and one statement about the definitions. Document 01, "Elements tried by hand". Assumes nothing: these are definitions.
use Rattle.std.specs.Prelude.{◌≡◌, ℕ, List, [], ◌∷◌}
use Rattle.dossier.specs.Elements.{Element, effect_of}
use Rattle.dossier.specs.declared.elements.Mark.{Mark}
use Rattle.dossier.specs.declared.elements.Mark.TheVariants.{N as mn, Minus as m-, Plus as m+, PlusMinus as m±}
use Rattle.dossier.specs.Bytes.{dossier_bytes}
use Rattle.dossier.specs.Replies.{refusal}
use Rattle.dossier.specs.Reading.{read_of}
use Rattle.dossier.specs.declared.elements.Decision.TheVariants.{Permit}
use Rattle.marks.specs.Marks.{first}
use Rattle.marks.specs.Walking.{walked}
use Rattle.least.specs.Least.{count, Fold}
use Rattle.least.specs.Judging.{Holds}
use Rattle.least.specs.declared.Verdict.{Verdict}
use Rattle.least.specs.declared.Verdict.TheVariants.{Least, Longer, Wrong}

-- the folder's marks of these elements, and their count; the verdict on given marks; or the refusal's number and position
pub data Case : Type 0 where
  folds : List Element → List Mark → ℕ → Case
  judged : List Element → List Mark → Verdict → Case
  refused : List Element → ℕ → ℕ → Case

-- what a case says: of all markings of the elements these are the folder's; the verdict holds; the reader refuses so
abbrev pub Correct : Case → Type 0
Correct (folds es ms n) = Fold (walked first) es ms × (count es ms ≡ n)
Correct (judged es ms v) = Holds (walked first) es ms v
Correct (refused es number position) = read_of (dossier_bytes es) ≡ refusal number 0 position

abbrev pub All : List Case → Type 0
All [] = Unit {0}
All (c ∷ cs) = Correct c × All cs

-- an element, written depth:decision
abbrev pub ◌∶◌ : ℕ → ℕ → Element
◌∶◌ depth decision = record { depth = depth; decision = effect_of decision; mark = mn; key = 0 }

infixl 80 ◌∶◌
abbrev pub case_b : List Element
case_b = 0 ∶ 0 ∷ 1 ∶ 1 ∷ 2 ∶ 0 ∷ []

abbrev pub case_d : List Element
case_d = 0 ∶ 1 ∷ 1 ∶ 0 ∷ []

abbrev pub table : List Case
table =
    -- A to H
    folds (0 ∶ 1 ∷ []) (m- ∷ []) 1
    ∷ folds case_b (m+ ∷ m- ∷ mn ∷ []) 2
    ∷ folds (0 ∶ 1 ∷ 1 ∶ 0 ∷ 2 ∶ 0 ∷ 1 ∶ 1 ∷ 1 ∶ 1 ∷ 1 ∶ 1 ∷ []) (m+ ∷ m+ ∷ mn ∷ mn ∷ mn ∷ mn ∷ []) 2
    ∷ folds case_d (m- ∷ m- ∷ []) 2
    ∷ folds (0 ∶ 1 ∷ 1 ∶ 1 ∷ 2 ∶ 0 ∷ 2 ∶ 0 ∷ 1 ∶ 0 ∷ 1 ∶ 0 ∷ []) (m± ∷ m- ∷ mn ∷ mn ∷ mn ∷ mn ∷ []) 3
    ∷ folds (0 ∶ 1 ∷ 1 ∶ 0 ∷ 1 ∶ 0 ∷ []) (m± ∷ mn ∷ mn ∷ []) 2
    ∷ folds (0 ∶ 0 ∷ 1 ∶ 0 ∷ 1 ∶ 1 ∷ []) (m+ ∷ mn ∷ m- ∷ []) 2
    ∷ folds (0 ∶ 0 ∷ 1 ∶ 1 ∷ 2 ∶ 0 ∷ 3 ∶ 1 ∷ []) (m- ∷ m+ ∷ m- ∷ mn ∷ []) 3
    -- D with + - is least, and with ± n too; D with + n is wrong at 1, answer 1; B with + + - is longer by 1
    ∷ judged case_d (m+ ∷ m- ∷ []) Least
    ∷ judged case_d (m± ∷ mn ∷ []) Least
    ∷ judged case_d (m+ ∷ mn ∷ []) (Wrong 1 Permit)
    ∷ judged case_b (m+ ∷ m+ ∷ m- ∷ []) (Longer 1)
    -- depths 0,2 give 4 at position 1; depths 0,0 give 4 at position 1
    ∷ refused (0 ∶ 0 ∷ 2 ∶ 0 ∷ []) 4 1
    ∷ refused (0 ∶ 0 ∷ 0 ∶ 0 ∷ []) 4 1
    ∷ []
