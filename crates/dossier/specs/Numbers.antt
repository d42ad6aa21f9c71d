-- Replies in document 01's numbers: "each refusal returns the number, the list and a record position"; "answers are 0 deny, 1 permit, 2 none". Assumes nothing: these are definitions.
use Rattle.std.specs.Prelude.{ℕ, List, [], ◌∷◌, Result, Ok, Err}
use Rattle.dossier.specs.Elements.{decision_number}
use Rattle.dossier.specs.declared.Refusal.{Refusal}
use Rattle.dossier.specs.declared.elements.Decision.{Decision}

abbrev pub refusal_numbers : Refusal → List ℕ
refusal_numbers f = f.number ∷ f.list ∷ f.position ∷ []

-- a count, or the three of a refusal
abbrev pub reply_numbers : Result ℕ Refusal → List ℕ
reply_numbers (Ok n) = n ∷ []
reply_numbers (Err f) = refusal_numbers f

-- the number of a decision, or the three of a refusal
abbrev pub answer_numbers : Result Decision Refusal → List ℕ
answer_numbers (Ok v) = decision_number v ∷ []
answer_numbers (Err f) = refusal_numbers f

-- this number where nothing is refused, else the three of the refusal
abbrev pub number_after : Result ℕ Refusal → ℕ → List ℕ
number_after (Ok n) number = number ∷ []
number_after (Err f) number = refusal_numbers f
