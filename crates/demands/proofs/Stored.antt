-- Old and new dossiers: what the old reader accepts is read now with the same elements, so that listing, folding and judging stay; and a depth over 63 is refused by the old reader at the first record of depth 64. Assumes nothing.
use Rattle.std.proofs.Common.{◌≡◌, ℕ, zero, suc, ◌<◌, ◌≤◌, ltb, ◌⊎◌, List, sym, refl, ◌∙◌, inl, inr, arith, below_more, ltb-false, le-ltb, lt-ltb, Ok}
use native.Mathlib.Decide.{dec_le}
use Rattle.dossier.specs.Bytes.{records, byte_of, depth_at, element_at, elements_of}
use Rattle.dossier.specs.Reading.{fields_at, low_after, high_after, last_before, fault_at, read_of, Sound}
use Rattle.dossier.specs.Replies.{refusal}
use Rattle.dossier.proofs.Laws.{depth-bytes}
use Rattle.dossier.proofs.Runs.{run-same}
use Rattle.dossier.proofs.Rows.{stops}
use Rattle.dossier.proofs.Sounds.{cond-zero, NoFaults, known, all-counted, not_faulty, counted-sound, sound-free}
use Rattle.listing.specs.Area.{listed_of, list_reply, list_area}
use Rattle.least.specs.Folding.{asked_for}
use Rattle.demands.specs.Stored.{old_deepest, old_depth, old_element_at, old_elements, old_before, old_fault, old_read, old_listed, old_list_reply, old_list_area, old_asked, OldSound, First64, Stored}

-- ---- one record

-- a record in which the old reader finds no fault
record OldFree (d : List ℕ) (i : ℕ) : Type 0 where
  shallow : old_depth d i ≤ old_deepest
  least : low_after i ≤ old_depth d i
  most : old_depth d i ≤ high_after i (old_before d i)
  decided : byte_of d i 1 ≤ 1
  marked : byte_of d i 2 ≤ 3
  spared : byte_of d i 3 ≤ 0

old_free : (d : List ℕ) (i : ℕ) → old_fault d i ≡ 0 → OldFree d i
unfolding old_fault
old_free d i e =
    let five = cond-zero (ltb old_deepest (old_depth d i)) 5 _ (omega arith) e in
    let four = cond-zero (ltb (old_depth d i) (low_after i)) 4 _ (omega arith) five.1 in
    let four' = cond-zero (ltb (high_after i (old_before d i)) (old_depth d i)) 4 _ (omega arith) four.1 in
    let six = cond-zero (ltb 1 (byte_of d i 1)) 6 _ (omega arith) four'.1 in
    let six' = cond-zero (ltb 3 (byte_of d i 2)) 6 _ (omega arith) six.1 in
    let six'' = cond-zero (ltb 0 (byte_of d i 3)) 6 0 (omega arith) six'.1 in
    record {
      shallow = ltb-false old_deepest (old_depth d i) five.0;
      least = ltb-false (old_depth d i) (low_after i) four.0;
      most = ltb-false (high_after i (old_before d i)) (old_depth d i) four'.0;
      decided = ltb-false 1 (byte_of d i 1) six.0;
      marked = ltb-false 3 (byte_of d i 2) six'.0;
      spared = ltb-false 0 (byte_of d i 3) six''.0;
    }

free_old : (d : List ℕ) (i : ℕ) → OldFree d i → old_fault d i ≡ 0
unfolding old_fault
free_old d i f =
    simp (
      le-ltb old_deepest (old_depth d i) f.shallow,
      le-ltb (old_depth d i) (low_after i) f.least,
      le-ltb (high_after i (old_before d i)) (old_depth d i) f.most,
      le-ltb 1 (byte_of d i 1) f.decided,
      le-ltb 3 (byte_of d i 2) f.marked,
      le-ltb 0 (byte_of d i 3) f.spared,
    )

too_deep : (d : List ℕ) (i : ℕ) → old_deepest < old_depth d i → old_fault d i ≡ 5
unfolding old_fault
too_deep d i l = simp (lt-ltb old_deepest (old_depth d i) l)

-- ---- a dossier that the old reader accepts

module _ (d : List ℕ) (o : OldSound d) where
  was : NoFaults (old_fault d) d
  unfolding old_read
  was = known (old_fault d) d o.0 o.1

  free-at : (i : ℕ) → i < records d → OldFree d i
  free-at i l = old_free d i (was.free i l)

  same-depth : (i : ℕ) → i < records d → depth_at d i ≡ old_depth d i
  same-depth i l = omega (arith, depth-bytes d i l, (free-at i l).spared)

  same-before : (i : ℕ) → i < records d → last_before d i ≡ old_before d i
  same-before zero l = refl
  same-before (suc i) l = same-depth i (omega arith)

  faultless : (i : ℕ) → i < records d → fault_at d i ≡ 0
  unfolding fault_at
  faultless i l =
      let f = free-at i l in
      let e : depth_at d i ≡ old_depth d i = same-depth i l in
      not_faulty (low_after i) (high_after i (last_before d i)) (fields_at d i)
      (record { shallow = omega (arith, e, f.shallow); least = rw e f.least; most = rw (e, same-before i l) f.most; decided = f.decided; marked = f.marked })

  now_counted : read_of d ≡ Ok (records d)
  unfolding read_of
  now_counted = all-counted (fault_at d) d (record { some = was.some; whole = was.whole; few = was.few; free = faultless })

  old_counted : old_read d ≡ Ok (records d)
  unfolding old_read
  old_counted = all-counted (old_fault d) d was

  same_read : read_of d ≡ old_read d
  same_read = now_counted ∙ sym old_counted

  same-elements : elements_of d ≡ old_elements d
  unfolding elements_of old_elements
  same-elements = run-same (element_at d) (old_element_at d) 0 (records d) (λ i a b. rw (same-depth i (omega arith)))

  -- ---- what is promised over its elements

  same-listed : listed_of d ≡ old_listed d
  unfolding listed_of old_listed
  same-listed = rw same-elements

  same-reply : (area : List ℕ) → list_reply d area ≡ old_list_reply d area
  unfolding list_reply old_list_reply
  same-reply area = rw (same_read, same-listed)

  same_area : (area : List ℕ) → list_area d area ≡ old_list_area d area
  unfolding list_area old_list_area
  same_area area = rw (same-reply area, same-listed)

  same_asked : (c : ℕ) → asked_for d c ≡ old_asked d c
  unfolding asked_for old_asked
  same_asked c = rw same_read

-- ---- a sound dossier with a depth over 63

-- the first of the first n records that is deeper, or there is none
record FirstDeeper (d : List ℕ) (n : ℕ) : Type 0 where
  at : ℕ
  within : at < n
  deeper : 63 < depth_at d at
  before : (j : ℕ) → j < at → depth_at d j ≤ 63

search_deeper : (d : List ℕ) (n : ℕ) → FirstDeeper d n ⊎ ((j : ℕ) → j < n → depth_at d j ≤ 63)
search_deeper d zero = inr (λ j l. absurd (omega arith))
search_deeper d (suc n) = go (search_deeper d n) (dec_le (depth_at d n) 63)
  where
    go : FirstDeeper d n ⊎ ((j : ℕ) → j < n → depth_at d j ≤ 63) → Dec (depth_at d n ≤ 63)
        → FirstDeeper d (suc n) ⊎ ((j : ℕ) → j < suc n → depth_at d j ≤ 63)
    go (inl f) b = inl (record { at = f.at; within = omega (arith, f.within); deeper = f.deeper; before = f.before })
    go (inr all) (yes l) = inr (λ j k. below_more (λ (i : ℕ). depth_at d i ≤ 63) n all l j (omega arith))
    go (inr all) (no l) = inl (record { at = n; within = omega arith; deeper = omega arith; before = all })

module _ (d : List ℕ) (s : Sound d) (k : ℕ) (there : k < records d) (deeper : 63 < depth_at d k) (before : (j : ℕ) → j < k → depth_at d j ≤ 63) where
  -- the order lets a depth grow by one
  by_one : (k : ℕ) → depth_at d k ≤ high_after k (last_before d k) → 63 < depth_at d k → ((j : ℕ) → j < k → depth_at d j ≤ 63)
      → depth_at d k ≡ 64
  unfolding high_after
  by_one zero most l h = absurd (omega arith)
  by_one (suc k) most l h = omega (arith, h k (omega arith))

  depth_64 : depth_at d k ≡ 64
  depth_64 = by_one k (sound-free d s k there).most deeper before

  -- before it, byte 3 is zero and byte 0 the depth
  shallow-depth : (j : ℕ) → j < k → (old_depth d j ≡ depth_at d j) × (byte_of d j 3 ≤ 0)
  shallow-depth j l = let e = depth-bytes d j (omega arith) in (omega (arith, e, before j l), omega (arith, e, before j l))

  shallow-before : (j : ℕ) → j < k → old_before d j ≡ last_before d j
  shallow-before zero l = refl
  shallow-before (suc j) l = (shallow-depth j (omega arith)).0

  passed : (j : ℕ) → j < k → old_fault d j ≡ 0
  passed j l =
      let f = sound-free d s j (omega arith) in
      let e = shallow-depth j l in
      free_old d j (record {
        shallow = omega (arith, e.0, before j l);
        least = rw e.0 f.least;
        most = rw (e.0, shallow-before j l) f.most;
        decided = f.decided;
        marked = f.marked;
        spared = e.1;
      })

  old_refused : old_read d ≡ refusal 5 0 k
  unfolding old_read
  old_refused =
      stops (old_fault d) d k 4 (λ e. omega (arith, s.some)) (λ n. n s.whole) (λ m. omega (arith, s.few)) there passed
      (too_deep d k (omega (arith, depth-bytes d k there, depth_64)))

  first_64 : First64 d k
  first_64 = record { there = there; depth = depth_64; before = λ j l e. omega (arith, before j l, e) }

old_refuses : (d : List ℕ) (i : ℕ) → Sound d → i < records d → 63 < depth_at d i → (k : ℕ) × First64 d k × (old_read d ≡ refusal 5 0 k)
old_refuses d i s there deeper = go (search_deeper d (suc i))
  where
    go : FirstDeeper d (suc i) ⊎ ((j : ℕ) → j < suc i → depth_at d j ≤ 63) → (k : ℕ) × First64 d k × (old_read d ≡ refusal 5 0 k)
    go (inl f) =
        let l : f.at < records d = omega (arith, f.within) in
        (f.at, first_64 d s f.at l f.deeper f.before, old_refused d s f.at l f.deeper f.before)
    go (inr all) = absurd (omega (arith, all i (omega arith)))

-- ---- the statement

pub stored : Stored
stored = record {
  sound = λ d o. counted-sound d (records d) (now_counted d o);
  reads = same_read;
  elements = same-elements;
  lists = λ d area o. (same-reply d o area, same_area d o area);
  folds = λ d r new o. rw (same_read d o, same-elements d o) (λ f. f, λ f. f);
  folds_for = λ c d r new o. rw (same_asked d o c, same-elements d o) (λ f. f, λ f. f);
  judges = λ d j o. rw (same_read d o, same-elements d o) (λ f. f, λ f. f);
  judges_for = λ c d j o. rw (same_asked d o c, same-elements d o) (λ f. f, λ f. f);
  refuses = old_refuses;
}
