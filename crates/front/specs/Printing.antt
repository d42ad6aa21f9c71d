-- What the program prints. Document 01, "What is built": "one program". Assumes nothing: these are definitions.
use Rattle.std.specs.Prelude.{◌≡◌, ℕ, List, ◌++◌, length, Result, Ok, Err}
use Rattle.dossier.specs.Bytes.{joined}
use Rattle.rules.specs.Rules.{Rule}
use Rattle.rules.specs.declared.kinds.Reach.{Reach}
use Rattle.rules.specs.declared.kinds.Reach.TheVariants.{Itself as self, All as all}
use Rattle.listing.specs.Area.{listed_of}
use Rattle.least.specs.Folding.{Folded}
use Rattle.programs.specs.Printing.{ascii, decimal, ended, effect_word, refusal_text}
use Rattle.dossier.specs.declared.Refusal.{Refusal}

-- ---- the lines

abbrev pub reach_word : Reach → List ℕ
reach_word self = ascii " self\n"
reach_word all = ascii " all\n"

-- a rule: the position of its target, its effect and its reach
abbrev pub line_of : Rule → List ℕ
line_of r = decimal r.target ++ (effect_word r.effect ++ reach_word r.reach)

-- `rules` and the count, then a line for each rule in list order
unfoldable pub rules_text : List Rule → List ℕ
rules_text rs = ascii "rules " ++ (ended (length rs) "\n" ++ joined line_of rs)

-- ---- the whole

-- what is printed after the folder's reply: the rules of the marks that it left, or the refusal
abbrev pub text_after : Result ℕ Refusal → List ℕ → List ℕ
text_after (Ok n) new = rules_text (listed_of new)
text_after (Err f) new = refusal_text f

-- the dossier is folded, and this is printed
pub record Printed (d text : List ℕ) : Type 0 where
  pub reply : Result ℕ Refusal
  pub new : List ℕ
  pub folded : Folded d reply new
  pub says : text ≡ text_after reply new
