-- What a public function promises fixes its reply and what each buffer lent to it then holds, on every input. Document 01, "How much each contract says", (a). Assumes nothing: these are definitions.
-- These promise equations, so that reply and buffer are what a function of the inputs says (and two that are the same are equal, `by_equation` in proofs/Determined.antt):
--   dossier: refused, depth, fault, read, two, key, store, below
--   rules: read_rules, applies, decide, deciding
--   marks: from_above, hand_on, decided, Walk::fresh
--   listing: list, count
-- These promise a relation, and of each `Definite` says that it allows exactly one:
--   marks: Walk::step, step_in_place
--   listing: read_back
--   least: fold, fold_for, judge, judge_for
--   view: view
use Rattle.std.specs.Prelude.{◌≡◌, ℕ, List, Result}
use Rattle.marks.specs.Stepping.{Steps}
use Rattle.marks.specs.declared.Walk.{Walk}
use Rattle.listing.specs.Back.{Back}
use Rattle.least.specs.Folding.{Folded, FoldedFor}
use Rattle.least.specs.Judging.{Judged, JudgedFor}
use Rattle.view.specs.View.{Views}
use Rattle.dossier.specs.declared.elements.Decision.{Decision}
use Rattle.dossier.specs.declared.Refusal.{Refusal}

-- exactly one is allowed: there is one, and any other is the same
pub record ExactlyOne {A : Type 0} (Allowed : A → Type 0) : Type 0 where
  pub it : A
  pub allowed : Allowed it
  pub only : (other : A) → Allowed other → other ≡ it

-- exactly one reply, with one content of the lent buffer
abbrev pub OneReply : {R B : Type 0} → (R → B → Type 0) → Type 0
OneReply {R} {B} Allowed = ExactlyOne {A = R × B} (λ p. Allowed p.0 p.1)

pub record Definite : Type 0 where
  pub step : (w : Walk) (r : List ℕ) → ExactlyOne (Steps w r)
  pub step_in_place : (w : Walk) (r : List ℕ) → OneReply (λ (reply : Result Decision Refusal) (new : Walk). Steps w r (record { walk = new; answer = reply }))
  pub read_back : (d rs : List ℕ) → OneReply (Back d rs)
  pub fold : (d : List ℕ) → OneReply (Folded d)
  pub judge : (d : List ℕ) → ExactlyOne (Judged d)
  pub fold_for : (c : ℕ) (d : List ℕ) → OneReply (FoldedFor c d)
  pub judge_for : (c : ℕ) (d : List ℕ) → ExactlyOne (JudgedFor c d)
  pub view : (d area : List ℕ) → OneReply (Views d area)
