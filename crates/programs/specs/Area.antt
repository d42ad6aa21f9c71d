-- Where a text that is put into an area from `at` on ends. Document 01, "Refusal numbers": "its other bytes are unchanged". Assumes nothing: these are definitions.
use Rattle.std.specs.Prelude.{◌≡◌, ℕ, ◌+◌, ◌≤◌, cond, List, length}
use Rattle.std.proofs.lemmas.List.Edits.{sets}
use Rattle.dossier.specs.Replies.{fits}

-- the place after the text; where it does not fit, the place that was given
unfoldable pub place_after : List ℕ → ℕ → List ℕ → ℕ
place_after area at text = cond (fits area at text) (at + length text) at

-- ---- what functions inside a program promise each other, which put text only where there is room

pub record Room (area : List ℕ) (at : ℕ) (text : List ℕ) : Type 0 where
  pub enough : at + length text ≤ length area

-- `out` is the area `was` with the text in it, and `to` is the place after it
pub record Puts (was : List ℕ) (at : ℕ) (text out : List ℕ) (to : ℕ) : Type 0 where
  pub room : Room was at text
  pub area : out ≡ sets was at text
  pub place : to ≡ at + length text
