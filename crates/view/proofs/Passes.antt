-- A pass over the records: what is shown, what is left of it from a record on, and what one record adds. Assumes nothing.
use Rattle.std.proofs.Common.{◌≡◌, ℕ, zero, suc, ◌+◌, ◌-◌, ◌*◌, ◌<◌, ◌≤◌, Bool, true, false, cond, List, [], ◌∷◌, length, replicate, refl, ◌∙◌, add-one, arith, length-append}
use native.Mathlib.Nat.{sub-zero}
use lib.Seq.{sets}
use Rattle.dossier.specs.Limits.{width, deepest}
use Rattle.dossier.specs.Bytes.{records, record_at, joined}
use Rattle.view.specs.Inner.{Memory, memory, no_limit, at_first, shows, after, shown_from, shown_of, bytes_of}
use Rattle.dossier.proofs.Stores.{sets_more}
use Rattle.dossier.proofs.Widths.{record-long}

-- what is left to show from record i on
unfoldable pub shown_rest : Memory → List ℕ → ℕ → List (List ℕ)
shown_rest m d i = shown_from m d i (records d - i)

pub rest-first : (d : List ℕ) {none limit : ℕ} → none ≡ 2 → limit ≡ no_limit → shown_rest (memory (replicate (suc deepest) none) limit) d 0 ≡ shown_of d
unfolding shown_rest shown_of
rest-first d e f = rw (e, f, sub-zero)

pub rest-none : (m : Memory) (d : List ℕ) (i : ℕ) → records d ≤ i → shown_rest m d i ≡ []
unfolding shown_rest shown_from
rest-none m d i l = let e : records d - i ≡ 0 = omega arith in rw e

rest-next : (m : Memory) (d : List ℕ) (i : ℕ) → i < records d
    → shown_rest m d i ≡ cond (shows m d i) (record_at d i ∷ shown_rest (after m d i) d (i + 1)) (shown_rest (after m d i) d (i + 1))
unfolding shown_rest shown_from
rest-next m d i l = let e : records d - i ≡ suc (records d - (i + 1)) = omega arith in rw (e, add-one)

-- no more are shown than there are
shown-few : (m : Memory) (d : List ℕ) (i n : ℕ) → length (shown_from m d i n) ≤ n
unfolding shown_from
shown-few m d i zero = omega arith
shown-few m d i (suc n) = go (shows m d i) (record_at d i) _ (shown-few (after m d i) d (suc i) n)
  where
    go : (b : Bool) (r : List ℕ) (rs : List (List ℕ)) → length rs ≤ n → length (cond b (r ∷ rs) rs) ≤ suc n
    go true r rs h = omega arith
    go false r rs h = omega arith

pub few : (d : List ℕ) → length (shown_of d) ≤ records d
unfolding shown_of
few d = shown-few at_first d 0 (records d)

-- shown records are whole
shown-long : (m : Memory) (d : List ℕ) (i n : ℕ) → i + n ≤ records d → length (bytes_of (shown_from m d i n)) ≡ length (shown_from m d i n) * width
unfolding shown_from
shown-long m d i zero l = refl
shown-long m d i (suc n) l =
    go (shows m d i) (record_at d i) _ (record-long width d i (omega arith) (omega arith)) (shown-long (after m d i) d (suc i) n (omega arith))
  where
    go : (b : Bool) (r : List ℕ) (rs : List (List ℕ)) → length r ≡ width → length (joined (λ x. x) rs) ≡ length rs * width
        → length (joined (λ x. x) (cond b (r ∷ rs) rs)) ≡ length (cond b (r ∷ rs) rs) * width
    go true r rs e h = omega (arith, length-append r (joined (λ x. x) rs))
    go false r rs e h = h

pub bytes-long : (d : List ℕ) → length (bytes_of (shown_of d)) ≡ length (shown_of d) * width
unfolding shown_of
bytes-long d = shown-long at_first d 0 (records d) (omega arith)

-- ---- one record, where the test said `b` and left `m'`

module _ (m : Memory) (d : List ℕ) (i : ℕ) {m' : Memory} {b : Bool} (l : i < records d) (p : b ≡ shows m d i) (q : m' ≡ after m d i) where
  pub rest-shown : b ≡ true → shown_rest m d i ≡ record_at d i ∷ shown_rest m' d (i + 1)
  rest-shown e = rest-next m d i l ∙ rw (← p, ← q, e)

  pub rest-hidden : b ≡ false → shown_rest m d i ≡ shown_rest m' d (i + 1)
  rest-hidden e = rest-next m d i l ∙ rw (← p, ← q, e)

  -- what is left to write, written from its place on
  pub written-shown : b ≡ true → (out : List ℕ) (to : ℕ)
      → sets (sets out (to * width) (record_at d i)) ((to + 1) * width) (bytes_of (shown_rest m' d (i + 1))) ≡ sets out (to * width) (bytes_of (shown_rest m d i))
  written-shown e out to =
      let next : (to + 1) * width ≡ to * width + length (record_at d i) = omega (arith, record-long width d i (omega arith) l) in
      rw (rest-shown e, next) (sets_more out (to * width) (record_at d i) (bytes_of (shown_rest m' d (i + 1))))
