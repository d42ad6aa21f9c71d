-- A pass by position: before element i its memory holds, up to the limit, what the walk's open depths hand down. Assumes nothing.
use Rattle.std.proofs.Common.{◌≡◌, ℕ, zero, suc, ◌<◌, ◌≤◌, List, [], length, get_or, take, sym, refl, ap, ◌∙◌, add-one, arith, length-take-le, get_or-take, take-take}
use Rattle.dossier.specs.Limits.{deepest}
use Rattle.dossier.specs.Elements.{decision_number}
use Rattle.dossier.specs.Bytes.{records, byte_of, depth_at, element_at}
use Rattle.dossier.specs.Reading.{high_after, last_before, Sound}
use Rattle.dossier.specs.declared.elements.Decision.{Decision}
use Rattle.dossier.specs.declared.elements.Decision.TheVariants.{None}
use Rattle.dossier.proofs.Sounds.{sound-free}
use Rattle.marks.specs.Marks.{first_answer, first_hand}
use Rattle.marks.specs.Walking.{above, close}
use Rattle.marks.proofs.Opened.{close-length, close_agree}
use Rattle.marks.proofs.Lending.{HoldsOpen, lent_answer_lem, lent_after_lem, lent_length}
use Rattle.view.specs.Inner.{Memory, memory, at_first}
use Rattle.view.proofs.Remembering.{answer, lent_by}

pub record Sees (d : List ℕ) (i : ℕ) (m : Memory) (st : List Decision) : Type 0 where
  pub long : length m.handed ≡ suc deepest
  pub opened : length st ≡ high_after i (last_before d i)
  pub holds : (k : ℕ) → k < m.limit → k < length st → get_or m.handed k 2 ≡ decision_number (get_or st k None)

pub sees_first : (d : List ℕ) → Sees d 0 at_first []
unfolding high_after
sees_first d = record { long = refl; opened = refl; holds = λ k a b. absurd (omega arith) }

module _ (d : List ℕ) (i : ℕ) {m : Memory} {st : List Decision} (at : Sees d i m st) (s : Sound d) (l : i < records d) where
  -- what the walk answers, and what it then hands down
  abbrev pub seen_answer : Decision
  seen_answer = first_answer (element_at d i).mark (element_at d i).decision (above st (depth_at d i))

  abbrev hand : Decision
  hand = first_hand (element_at d i).mark (element_at d i).decision (above st (depth_at d i))

  abbrev pub next : List Decision
  next = close st (depth_at d i) hand

  under : depth_at d i ≤ length st
  under = omega (arith, (sound-free d s i l).most, at.opened)

  opened-next : length next ≡ high_after (suc i) (last_before d (suc i))
  unfolding high_after
  opened-next = close-length (depth_at d i) st hand under ∙ sym (add-one (depth_at d i))

  -- less deep ones hand down what they did
  same-before : (k : ℕ) → k < depth_at d i → get_or next k None ≡ get_or st k None
  same-before k h =
      sym (get_or-take (depth_at d i) next k None h) ∙ ap (λ (x : List Decision). get_or x k None) (close_agree (depth_at d i) st hand under).kept
      ∙ get_or-take (depth_at d i) st k None h

  -- below a hidden one nothing is remembered
  pub sees_hidden : m.limit < depth_at d i → Sees d (suc i) m next
  sees_hidden h = record {
    long = at.long;
    opened = opened-next;
    holds = λ k a b. at.holds k a (omega (arith, under)) ∙ ap decision_number (sym (same-before k (omega arith)));
  }

  module _ (h : depth_at d i ≤ m.limit) where
    -- the depths above the element's own
    abbrev before : List Decision
    before = take (depth_at d i) st

    before-length : length before ≡ depth_at d i
    before-length = length-take-le (depth_at d i) st under

    before-holds : HoldsOpen m.handed before
    before-holds = record {
      at = λ k b.
          let c : k < depth_at d i = omega (arith, before-length) in
          at.holds k (omega arith) (omega (arith, under)) ∙ ap decision_number (sym (get_or-take (depth_at d i) st k None c));
    }

    before_above : (k : ℕ) → k ≤ depth_at d i → above before k ≡ above st k
    before_above zero g = refl
    before_above (suc k) g = get_or-take (depth_at d i) st k None g

    -- the answer is the walk's
    pub sees-answer : answer m d i ≡ seen_answer
    sees-answer =
        lent_answer_lem before-holds (depth_at d i) (byte_of d i 1) (byte_of d i 2) (omega (arith, before-length))
        ∙ rw (before_above (depth_at d i) (omega arith))

    next-holds : HoldsOpen (lent_by m d i) next
    next-holds =
        rw (before_above (depth_at d i) (omega arith), take-take (depth_at d i) (depth_at d i) st (omega arith)) at
        (lent_after_lem before-holds (depth_at d i) (byte_of d i 1) (byte_of d i 2) (omega (arith, before-length)) (omega (arith, at.long, s.shallow i l)))

    -- and so is what is remembered, up to any limit
    pub sees-next : (limit : ℕ) → Sees d (suc i) (memory (lent_by m d i) limit) next
    sees-next limit = record {
      long = lent_length m.handed (depth_at d i) (byte_of d i 1) (byte_of d i 2) ∙ at.long;
      opened = opened-next;
      holds = λ k a b. next-holds.at k b;
    }
