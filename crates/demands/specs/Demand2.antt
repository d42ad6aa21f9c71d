-- Demand 2. Decisions over any rule list are those of the published XACML combining rules, or none where no rule applies. For every sound dossier and any marks, the rules listed from the marks give, first applicable, each element the decision that the marks give it, or none where they give none. Reading the list back yields those marks; a list that no marks give is refused.
-- Assumes nothing: these are definitions.
use Rattle.std.specs.Prelude.{◌≡◌, ◌↔◌, ◌⊎◌, ℕ, ◌+◌, ◌*◌, ◌≤◌, ◌<◌, List, [], map, length, get_or, Result, Ok, Err}
use Rattle.dossier.specs.Limits.{width}
use Rattle.dossier.specs.Elements.{marks_of, is}
use Rattle.dossier.specs.declared.elements.Effect.{Effect}
use Rattle.dossier.specs.declared.elements.Mark.{Mark}
use Rattle.dossier.specs.declared.elements.Mark.TheVariants.{Minus as m-, Plus as m+, PlusMinus as m±}
use Rattle.dossier.specs.Bytes.{records, records_of, elements_of, with_marks}
use Rattle.dossier.specs.Replies.{refusal, fronted}
use Rattle.dossier.specs.Reading.{Sound}
use Rattle.dossier.specs.declared.elements.Decision.{Decision}
use Rattle.dossier.specs.declared.elements.Decision.TheVariants.{None}
use Rattle.dossier.specs.declared.Refusal.{Refusal}
use Rattle.rules.specs.Rules.{Rule, rules_of, list_bytes}
use Rattle.rules.specs.ReadingRules.{SoundRules}
use Rattle.rules.specs.Combining.{last_combining, combining_of}
use Rattle.rules.specs.Deciding.{both_rules, decide_of, deciding_of}
use Rattle.marks.specs.Marks.{first}
use Rattle.marks.specs.Walking.{walked}
use Rattle.marks.specs.Stepping.{fresh_of, StepsAll, answers_in}
use Rattle.marks.specs.declared.Stepped.{Stepped}
use Rattle.listing.specs.Listing.{list_of, number_of}
use Rattle.listing.specs.Area.{list_reply, list_area}
use Rattle.listing.specs.Back.{Gives, Back}
use Rattle.demands.specs.Published.{Published, Deciding}

-- any marks of a dossier: one for each element
pub record Marking (d : List ℕ) : Type 0 where
  pub marks : List Mark
  pub each : length marks ≡ records d

-- the rules listed from the marks
abbrev pub rules_from : (d : List ℕ) → Marking d → List Rule
rules_from d m = list_of (elements_of d) m.marks

-- the decision that the marks give an element
abbrev pub marked_at : (d : List ℕ) → Marking d → ℕ → Decision
marked_at d m i = get_or (walked first (elements_of d) m.marks) i None

pub record Demand2 : Type 0 where
  -- decisions over any rule list are those of the published combining rules, or none where no rule applies
  pub decided : (d house recipient : List ℕ) (c i : ℕ) → Sound d → SoundRules d house → SoundRules d recipient → c ≤ last_combining → i < records d
      → (v : Decision) → (decide_of d house recipient c i ≡ Ok v) ↔ Published (elements_of d) i (both_rules house recipient) (combining_of c) v
  -- the second call gives the deciding rule's bytes, and none exactly where the answer is none or the first call refuses
  pub deciding-rule : (d house recipient : List ℕ) (c i : ℕ) (e : Effect) → decide_of d house recipient c i ≡ Ok (is e)
      → Deciding (elements_of d) i house recipient e (deciding_of d house recipient c i)
  pub deciding-none : (d house recipient : List ℕ) (c i : ℕ) → (deciding_of d house recipient c i ≡ [])
      ↔ ((decide_of d house recipient c i ≡ Ok None) ⊎ ((f : Refusal) × (decide_of d house recipient c i ≡ Err f)))
  -- for every sound dossier and any marks, the rules listed from the marks are what the lister writes once the dossier holds them
  pub listed : (d : List ℕ) (m : Marking d) (area : List ℕ) → Sound d → length (rules_from d m) * width ≤ length area
      → (list_reply (with_marks d 0 m.marks) area ≡ Ok (length (rules_from d m)))
      × (list_area (with_marks d 0 m.marks) area ≡ fronted area (list_bytes (rules_from d m)))
  -- they are as many as the number of `-`, plus the number of `+`, plus twice the number of `±`
  pub counted : (d : List ℕ) (m : Marking d)
      → length (rules_from d m) ≡ number_of m- m.marks + number_of m+ m.marks + 2 * number_of m± m.marks
  -- they give, first applicable, each element the decision that the marks give it, or none where they give none
  pub decided_as_marked : (d : List ℕ) (m : Marking d) (i : ℕ) → Sound d → i < records d
      → decide_of d (list_bytes (rules_from d m)) [] 0 i ≡ Ok (marked_at d m i)
  -- and so does the gateway's walk over the marks that a dossier holds, record after record from a fresh one
  pub stepped_as_marked : (d : List ℕ) (ss : List Stepped) → Sound d → StepsAll fresh_of (records_of d) ss
      → answers_in ss ≡ map Ok (walked first (elements_of d) (marks_of (elements_of d)))
  -- reading the list back yields those marks, and no other byte is written
  pub read_back : (d : List ℕ) (m : Marking d) (reply : Result ℕ Refusal) (new : List ℕ) → Sound d → Back d (list_bytes (rules_from d m)) reply new
      → (reply ≡ Ok (records d)) × (new ≡ with_marks d 0 m.marks) × (marks_of (elements_of new) ≡ m.marks)
  -- a list that no marks give is refused, and only such a one
  pub no_marks_refused : (d rs : List ℕ) (reply : Result ℕ Refusal) (new : List ℕ) → Sound d → SoundRules d rs → Back d rs reply new
      → (reply ≡ refusal 9 1 0) ↔ ((ms : List Mark) → Gives d ms (rules_of rs) → ⊥)
