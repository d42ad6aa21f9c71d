-- Demand 1. Every byte sequence given as a dossier or rule list gets a definite reply. A bad one is refused by a number from the table, given exactly when the table says, with every lent buffer unchanged. No caller is expected to check first.
-- Here `d`, `rs`, `house`, `recipient`, `area` and `r` are any byte sequences: no line asks anything of them, as no public function has a `requires`. Assumes nothing: these are definitions.
use Rattle.std.specs.Prelude.{◌≡◌, ◌↔◌, ℕ, List, length, Result, Ok, Err}
use Rattle.dossier.specs.Bytes.{records}
use Rattle.dossier.specs.Reading.{read_of, Sound}
use Rattle.dossier.specs.Refusing.{◌before◌, in_elements, too_short}
use Rattle.dossier.specs.declared.Refusal.{Refusal}
use Rattle.rules.specs.ReadingRules.{read_rules_of, SoundRules}
use Rattle.rules.specs.Deciding.{decide_of}
use Rattle.marks.specs.Stepping.{Steps}
use Rattle.marks.specs.declared.Walk.{Walk}
use Rattle.marks.specs.declared.Stepped.{Stepped}
use Rattle.listing.specs.Area.{listed_of, list_reply, list_area}
use Rattle.listing.specs.Back.{Back}
use Rattle.least.specs.Folding.{Folded, FoldedFor}
use Rattle.least.specs.Judging.{Judged, JudgedFor}
use Rattle.view.specs.View.{Views}
use Rattle.demands.specs.Definite.{Definite}
use Rattle.demands.specs.Refusing.{in_rules, too_short_for_view, no_marks, no_element, no_combining, never_left, not_one_record, all_taken, too_deep, out_of_order, bad_field}
use Rattle.least.specs.declared.Report.{Report}

pub record Demand1 : Type 0 where
  -- every byte sequence gets a definite reply: what is promised allows exactly one, and one content of each lent buffer
  pub definite : Definite
  -- a bad one is refused by a number from the table, given exactly when the table says; a dossier by 1 to 6, and accepted exactly if it is sound
  pub dossier_accepted : (d : List ℕ) (n : ℕ) → (read_of d ≡ Ok n) ↔ (Sound d × (n ≡ records d))
  pub dossier_refused : (d : List ℕ) (f : Refusal) → (read_of d ≡ Err f) ↔ in_elements d f
  -- a rule list over a dossier by 2, 3 and 7, and accepted exactly if it is sound
  pub rules-accepted : (d : List ℕ) (list : ℕ) (rs : List ℕ) (n : ℕ) → (read_rules_of d list rs ≡ Ok n) ↔ (SoundRules d rs × (n ≡ records rs))
  pub rules-refused : (d : List ℕ) (list : ℕ) (rs : List ℕ) (f : Refusal) → (read_rules_of d list rs ≡ Err f) ↔ in_rules d list rs f
  -- a request by the first that holds in its order; listing by 1 to 6, then 8
  pub list-refused : (d area : List ℕ) (f : Refusal) → (list_reply d area ≡ Err f) ↔ (in_elements d before too_short (length (listed_of d)) area) f
  -- reading back by 1 to 6, then 2, 3 and 7 of the rules, then 9
  pub back-refused : (d rs : List ℕ) (reply : Result ℕ Refusal) (new : List ℕ) → Back d rs reply new
      → (f : Refusal) → (reply ≡ Err f) ↔ (in_elements d before in_rules d 1 rs before no_marks d rs) f
  -- deciding by 1 to 6, then 2, 3 and 7 of the first list, then of the second, then 11, then 10
  pub decide-refused : (d house recipient : List ℕ) (c i : ℕ) (f : Refusal) → (decide_of d house recipient c i ≡ Err f)
      ↔ (in_elements d before in_rules d 1 house before in_rules d 2 recipient before no_combining c before no_element d i) f
  -- folding and judging by 1 to 6
  pub fold-refused : (d : List ℕ) (reply : Result ℕ Refusal) (new : List ℕ) → Folded d reply new → (f : Refusal) → (reply ≡ Err f) ↔ in_elements d f
  pub judge-refused : (d : List ℕ) (reply : Result Report Refusal) → Judged d reply → (f : Refusal) → (reply ≡ Err f) ↔ in_elements d f
  -- for a combining number by 1 to 6, then 11
  pub fold_for_refused : (c : ℕ) (d : List ℕ) (reply : Result ℕ Refusal) (new : List ℕ) → FoldedFor c d reply new
      → (f : Refusal) → (reply ≡ Err f) ↔ (in_elements d before no_combining c) f
  pub judge_for_refused : (c : ℕ) (d : List ℕ) (reply : Result Report Refusal) → JudgedFor c d reply
      → (f : Refusal) → (reply ≡ Err f) ↔ (in_elements d before no_combining c) f
  -- the view by 1 to 6, then 8
  pub view-refused : (d area : List ℕ) (reply : Result ℕ Refusal) (new : List ℕ) → Views d area reply new
      → (f : Refusal) → (reply ≡ Err f) ↔ (in_elements d before too_short_for_view d area) f
  -- a walk step by 17, 2, 3, 5, 4, 6
  pub step-refused : (w : Walk) (r : List ℕ) (s : Stepped) → Steps w r s → (f : Refusal) → (s.answer ≡ Err f)
      ↔ (never_left w before not_one_record r before all_taken w before too_deep w r before out_of_order w r before bad_field w r) f
  -- with every lent buffer unchanged: the output area, the dossier whose marks would be written, the walk
  pub list-unchanged : (d area : List ℕ) (f : Refusal) → list_reply d area ≡ Err f → list_area d area ≡ area
  pub back-unchanged : (d rs : List ℕ) (reply : Result ℕ Refusal) (new : List ℕ) (f : Refusal) → Back d rs reply new → reply ≡ Err f → new ≡ d
  pub fold-unchanged : (d : List ℕ) (reply : Result ℕ Refusal) (new : List ℕ) (f : Refusal) → Folded d reply new → reply ≡ Err f → new ≡ d
  pub fold_for_unchanged : (c : ℕ) (d : List ℕ) (reply : Result ℕ Refusal) (new : List ℕ) (f : Refusal) → FoldedFor c d reply new → reply ≡ Err f → new ≡ d
  pub view-unchanged : (d area : List ℕ) (reply : Result ℕ Refusal) (new : List ℕ) (f : Refusal) → Views d area reply new → reply ≡ Err f → new ≡ area
  pub step-unchanged : (w : Walk) (r : List ℕ) (s : Stepped) (f : Refusal) → Steps w r s → s.answer ≡ Err f → s.walk ≡ w
