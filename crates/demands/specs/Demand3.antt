-- Demand 3. For every sound dossier and marks from anyone, the judge says "least" exactly when each element gets its set decision and no choice of the four marks per element does that with fewer rules. The folder's own marks always get that verdict, and the count it reports is the number of rules they list.
-- Assumes nothing: these are definitions.
use Rattle.std.specs.Prelude.{◌≡◌, ◌↔◌, ℕ, ◌*◌, ◌≤◌, List, length, replicate, Result, Ok}
use Rattle.dossier.specs.Limits.{width}
use Rattle.dossier.specs.Elements.{marks_of}
use Rattle.dossier.specs.declared.elements.Mark.{Mark}
use Rattle.dossier.specs.declared.elements.Mark.TheVariants.{Minus as m-}
use Rattle.dossier.specs.Bytes.{records, elements_of, with_marks}
use Rattle.dossier.specs.Reading.{read_of, Sound}
use Rattle.dossier.specs.declared.elements.Decision.{Decision}
use Rattle.rules.specs.Combining.{combining_number}
use Rattle.rules.specs.declared.kinds.Combining.{Combining}
use Rattle.marks.specs.Marks.{first}
use Rattle.marks.specs.Walking.{walked}
use Rattle.listing.specs.Area.{listed_of, list_reply}
use Rattle.least.specs.Least.{Answers, by_rules, Right, count, Least, First}
use Rattle.least.specs.Folding.{FoldedAfter, asked_for}
use Rattle.least.specs.Judging.{Longer, Wrong, JudgedAfter}
use Rattle.least.specs.declared.Verdict.TheVariants as verdict
use Rattle.least.specs.declared.Report.{Report}
use Rattle.dossier.specs.declared.Refusal.{Refusal}

-- ---- the base, and the demand read with a chosen combining

-- a way to fold and to judge: what marks answer, and what is refused before
pub record Way : Type 0 where
  pub answers : Answers
  pub asked : List ℕ → Result ℕ Refusal

-- by the walk
abbrev pub walking : Way
walking = record { answers = walked first; asked = read_of }

-- by deciding over the listed rules with a combining, asked for by its number
abbrev pub combining : Combining → Way
combining c = record { answers = by_rules c; asked = λ d. asked_for d (combining_number c) }

-- what the folder and the judge promise that way: with `walking` these are `Folded` and `Judged`, with `combining c` they are `FoldedFor` and `JudgedFor` of its number (`fold-by` and `judge-by` in Combinings.antt)
abbrev pub FoldedBy : Way → List ℕ → Result ℕ Refusal → List ℕ → Type 0
FoldedBy w d reply new = FoldedAfter w.answers (w.asked d) d reply new

abbrev pub JudgedBy : Way → List ℕ → Result Report Refusal → Type 0
JudgedBy w d j = JudgedAfter w.answers (w.asked d) d j

-- ---- the demand

-- the marks that a dossier holds, from anyone
abbrev pub marks_in : List ℕ → List Mark
marks_in d = marks_of (elements_of d)

pub record Demand3 (w : Way) : Type 0 where
  -- for every sound dossier and marks from anyone, the judge says "least" exactly when each element gets its set decision and no choice of the four marks per element does that with fewer rules
  pub least : (d : List ℕ) (r : Report) → Sound d → JudgedBy w d (Ok r) → (r.verdict ≡ verdict.Least) ↔ Least w.answers (elements_of d) (marks_in d)
  -- it says longer by n, and wrong at element i with its answer there, exactly when they are
  pub longer : (d : List ℕ) (r : Report) (n : ℕ) → Sound d → JudgedBy w d (Ok r)
      → (r.verdict ≡ verdict.Longer n) ↔ Longer w.answers (elements_of d) (marks_in d) n
  pub wrong : (d : List ℕ) (r : Report) (i : ℕ) (a : Decision) → Sound d → JudgedBy w d (Ok r)
      → (r.verdict ≡ verdict.Wrong i a) ↔ Wrong w.answers (elements_of d) (marks_in d) i a
  -- it always reports, with the number of rules that the marks list
  pub reported : (d : List ℕ) (j : Result Report Refusal) → Sound d → JudgedBy w d j → (r : Report) × (j ≡ Ok r) × (r.count ≡ count (elements_of d) (marks_in d))
  -- right markings always exist: `-` everywhere
  pub minus_right : (d : List ℕ) → Sound d → Right w.answers (elements_of d) (replicate (records d) m-)
  -- the folder's own marks always get that verdict, with the count that the folder reports
  pub own-least : (d : List ℕ) (n : ℕ) (new : List ℕ) (j : Result Report Refusal) → Sound d → FoldedBy w d (Ok n) new → JudgedBy w new j
      → j ≡ Ok (record { count = n; verdict = verdict.Least })
  -- and that count is the number of rules they list, which the lister replies
  pub own-count : (d : List ℕ) (n : ℕ) (new : List ℕ) → Sound d → FoldedBy w d (Ok n) new
      → (n ≡ length (listed_of new)) × ((area : List ℕ) → n * width ≤ length area → list_reply new area ≡ Ok n)
  -- the folder always reports a count, at least 1 and at most the number of elements
  pub own_bounds : (d : List ℕ) (reply : Result ℕ Refusal) (new : List ℕ) → Sound d → FoldedBy w d reply new
      → (n : ℕ) × (reply ≡ Ok n) × (1 ≤ n) × (n ≤ records d)
  -- it writes its marks and no other byte; of several least ones they come first
  pub own_first : (d : List ℕ) (reply : Result ℕ Refusal) (new : List ℕ) → Sound d → FoldedBy w d reply new
      → (ms : List Mark) × (new ≡ with_marks d 0 ms) × Least w.answers (elements_of d) ms × ((other : List Mark) → Least w.answers (elements_of d) other → First ms other)
  -- it ignores the marks it finds: of the same dossier with any marks in it, it replies the same and leaves the same
  pub own-ignores : (d : List ℕ) (found : List Mark) (reply other : Result ℕ Refusal) (new left : List ℕ) → Sound d → length found ≡ records d
      → FoldedBy w d reply new → FoldedBy w (with_marks d 0 found) other left → (reply ≡ other) × (new ≡ left)
