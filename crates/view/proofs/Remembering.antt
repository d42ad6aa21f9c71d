-- What one record does to a pass, case by case: it lies below a hidden one, it is permitted, or it is not. Assumes nothing.
use Rattle.std.proofs.Common.{◌≡◌, ℕ, ◌<◌, ◌≤◌, true, false, List, sym, refl, ◌∙◌, arith, le-ltb, lt-ltb}
use native.Mathlib.Decide.{dec_le}
use Rattle.dossier.specs.Bytes.{byte_of, depth_at}
use Rattle.dossier.specs.declared.elements.Decision.{Decision}
use Rattle.dossier.specs.declared.elements.Decision.TheVariants.{Deny, Permit, None}
use Rattle.marks.specs.Lent.{lent_answer, lent_after}
use Rattle.view.specs.Inner.{Memory, memory, no_limit, hidden, permits, permitted, shows, after}

-- the answer that shows is permit alone
other_permits : (a : Decision) → (a ≡ Permit → ⊥) → permits a ≡ false
other_permits Deny n = refl
other_permits Permit n = absurd (n refl)
other_permits None n = refl

module _ (m : Memory) (d : List ℕ) (i : ℕ) where
  abbrev pub answer : Decision
  answer = lent_answer m.handed (depth_at d i) (byte_of d i 1) (byte_of d i 2)

  abbrev pub lent_by : List ℕ
  lent_by = lent_after m.handed (depth_at d i) (byte_of d i 1) (byte_of d i 2)

  pub below-hidden : m.limit < depth_at d i → (shows m d i ≡ false) × (after m d i ≡ m)
  unfolding hidden shows after
  below-hidden l = simp (lt-ltb m.limit (depth_at d i) l) (refl, refl)

  pub lets_in : depth_at d i ≤ m.limit → answer ≡ Permit → (shows m d i ≡ true) × (after m d i ≡ memory lent_by no_limit)
  unfolding hidden permitted shows after
  lets_in l e = simp (le-ltb m.limit (depth_at d i) l, e) (refl, refl)

  pub keeps_out : depth_at d i ≤ m.limit → (answer ≡ Permit → ⊥) → (shows m d i ≡ false) × (after m d i ≡ memory lent_by (depth_at d i))
  unfolding hidden permitted shows after
  keeps_out l n = simp (le-ltb m.limit (depth_at d i) l, other_permits answer n) (refl, refl)

  -- one of the three
  pub data Turn : Type 0 where
    passed : m.limit < depth_at d i → Turn
    let-in : depth_at d i ≤ m.limit → answer ≡ Permit → Turn
    kept_out : depth_at d i ≤ m.limit → (answer ≡ Permit → ⊥) → Turn

  pub turn : Turn
  turn = elim (dec_le (depth_at d i) m.limit) [ yes h ↦ answered h answer refl | no h ↦ passed (omega arith) ]
    where
      answered : depth_at d i ≤ m.limit → (a : Decision) → answer ≡ a → Turn
      answered h Permit q = let-in h q
      answered h Deny q = kept_out h (λ p. let z : Deny ≡ Permit = sym q ∙ p in cc)
      answered h None q = kept_out h (λ p. let z : None ≡ Permit = sym q ∙ p in cc)

-- ---- the same once the depth is read and the walk has answered

module _ (m : Memory) (d : List ℕ) (i : ℕ) {k : ℕ} (read : k ≡ depth_at d i) where
  pub reads_below : m.limit < k → (false ≡ shows m d i) × (m ≡ after m d i)
  reads_below l = let e = below-hidden m d i (omega (arith, read)) in (sym e.0, sym e.1)

  module _ (l : k ≤ m.limit) {a : Decision} {h : List ℕ} (answers : a ≡ lent_answer m.handed k (byte_of d i 1) (byte_of d i 2))
      (hands : h ≡ lent_after m.handed k (byte_of d i 1) (byte_of d i 2)) where
    pub reads_permit : a ≡ Permit → (true ≡ shows m d i) × (memory h no_limit ≡ after m d i)
    reads_permit q =
        let e = lets_in m d i (omega (arith, read)) (rw (answers, read) at q) in
        (sym e.0, rw (hands, read) (sym e.1))

    pub reads_other : (a ≡ Permit → ⊥) → (false ≡ shows m d i) × (memory h k ≡ after m d i)
    reads_other q =
        let e = keeps_out m d i (omega (arith, read)) (rw (answers, read) at q) in
        (sym e.0, rw (hands, read) (sym e.1))
