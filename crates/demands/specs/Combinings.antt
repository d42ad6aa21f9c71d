-- How the combinings hang together: each has its number, 0 is the base's folder and judge, and exchanging permit and deny throughout turns permit overrides into deny overrides. Request M-104 and document 01, "How a decision comes about".
-- Assumes nothing: these are definitions.
use Rattle.std.specs.Prelude.{◌≡◌, ◌↔◌, ℕ, ◌≤◌, List, map, length, Result}
use Rattle.dossier.specs.Elements.{Element}
use Rattle.dossier.specs.declared.elements.Mark.{Mark}
use Rattle.dossier.specs.declared.elements.Decision.{Decision}
use Rattle.rules.specs.Rules.{Rule}
use Rattle.rules.specs.Combining.{combining_number, last_combining, combining_of, decisions}
use Rattle.rules.specs.declared.kinds.Combining.{Combining}
use Rattle.rules.specs.declared.kinds.Combining.TheVariants.{DenyOverrides as deny_overrides, PermitOverrides as permit_overrides}
use Rattle.rules.specs.Exchange.{exchanged_decision, exchanged, exchanged_elements}
use Rattle.least.specs.Least.{by_rules, count, Least, Fold}
use Rattle.least.specs.Folding.{Folded, FoldedFor}
use Rattle.least.specs.Judging.{Longer, Wrong, Judged, JudgedFor}
use Rattle.demands.specs.Demand3.{combining, FoldedBy, JudgedBy}
use Rattle.dossier.specs.declared.Refusal.{Refusal}
use Rattle.least.specs.declared.Report.{Report}

pub record Combinings : Type 0 where
  -- each combining has its number, and what is promised for a number is what demand 3 is read with
  pub numbered : (c : Combining) → combining_of (combining_number c) ≡ c
  pub fold-by : (n : ℕ) → n ≤ last_combining → (d : List ℕ) (reply : Result ℕ Refusal) (new : List ℕ) → FoldedFor n d reply new ↔ FoldedBy (combining (combining_of n)) d reply new
  pub judge-by : (n : ℕ) → n ≤ last_combining → (d : List ℕ) (j : Result Report Refusal) → JudgedFor n d j ↔ JudgedBy (combining (combining_of n)) d j
  -- what is promised for 0 is what the base promises
  pub fold_0 : (d : List ℕ) (reply : Result ℕ Refusal) (new : List ℕ) → FoldedFor 0 d reply new ↔ Folded d reply new
  pub judge_0 : (d : List ℕ) (j : Result Report Refusal) → JudgedFor 0 d j ↔ Judged d j
  -- exchanged throughout, the answers of permit overrides over any rule list are those of deny overrides
  pub answers : (es : List Element) (rs : List Rule) → decisions permit_overrides es rs ≡ map exchanged_decision (decisions deny_overrides (exchanged_elements es) (map exchanged rs))
  -- the folder's marks are the same, and so is their count
  pub fold : (es : List Element) (ms : List Mark) → Fold (by_rules permit_overrides) es ms ↔ Fold (by_rules deny_overrides) (exchanged_elements es) ms
  pub counts : (es : List Element) (ms : List Mark) → count es ms ≡ count (exchanged_elements es) ms
  -- and so is the verdict, but that the answer of a wrong one is exchanged
  pub least : (es : List Element) (ms : List Mark) → Least (by_rules permit_overrides) es ms ↔ Least (by_rules deny_overrides) (exchanged_elements es) ms
  pub longer : (es : List Element) (ms : List Mark) (n : ℕ) → Longer (by_rules permit_overrides) es ms n ↔ Longer (by_rules deny_overrides) (exchanged_elements es) ms n
  pub wrong : (es : List Element) (ms : List Mark) → length ms ≡ length es → (i : ℕ) (a : Decision)
      → Wrong (by_rules permit_overrides) es ms i (exchanged_decision a) ↔ Wrong (by_rules deny_overrides) (exchanged_elements es) ms i a
