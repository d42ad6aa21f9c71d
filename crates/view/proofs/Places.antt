-- The positions of the records that a pass shows: they are the dossier's, and the depths there are in order. Assumes nothing.
use Rattle.std.proofs.Common.{◌≡◌, ℕ, zero, suc, ◌+◌, ◌<◌, ◌≤◌, Bool, true, false, cond, ◌⊎◌, List, [], ◌∷◌, map, length, get_or, refl, ap, inl, inr, arith}
use Rattle.dossier.specs.Bytes.{records, record_at, depth_at, element_at}
use Rattle.dossier.specs.Order.{Follows, Ordered}
use Rattle.dossier.specs.Reading.{low_after, high_after, last_before, Sound}
use Rattle.dossier.proofs.Sounds.{FreeAt, sound-free}
use Rattle.view.specs.Inner.{Memory, at_first, shows, after, shown_from}
use Rattle.view.proofs.Remembering.{below-hidden, lets_in, keeps_out, Turn, passed, let-in, kept_out, turn}

-- the positions of those of the n records from record i on that are shown
unfoldable pub shown_places : Memory → List ℕ → ℕ → ℕ → List ℕ
shown_places m d i zero = []
shown_places m d i (suc n) =
    let rest = shown_places (after m d i) d (suc i) n in
    cond (shows m d i) (i ∷ rest) rest

pub places-shown : (m : Memory) (d : List ℕ) (i n : ℕ) → map (record_at d) (shown_places m d i n) ≡ shown_from m d i n
unfolding shown_places shown_from
places-shown m d i zero = refl
places-shown m d i (suc n) = go (shows m d i) _ _ (places-shown (after m d i) d (suc i) n)
  where
    go : (b : Bool) (ps : List ℕ) (rs : List (List ℕ)) → map (record_at d) ps ≡ rs → map (record_at d) (cond b (i ∷ ps) ps) ≡ cond b (record_at d i ∷ rs) rs
    go true ps rs q = ap {B = List (List ℕ)} (λ rs. record_at d i ∷ rs) q
    go false ps rs q = q

-- they are there
pub places-there : (m : Memory) (d : List ℕ) (i n most : ℕ) → i + n ≤ most → (k : ℕ) → k < length (shown_places m d i n) → get_or (shown_places m d i n) k 0 < most
unfolding shown_places
places-there m d i zero most l k h = absurd (omega arith)
places-there m d i (suc n) most l k h = go (shows m d i) _ (places-there (after m d i) d (suc i) n most (omega arith)) k h
  where
    go : (b : Bool) (ps : List ℕ) → ((k : ℕ) → k < length ps → get_or ps k 0 < most) → (k : ℕ) → k < length (cond b (i ∷ ps) ps) → get_or (cond b (i ∷ ps) ps) k 0 < most
    go true ps f zero h = omega arith
    go true ps f (suc k) h = f k (omega arith)
    go false ps f k h = f k h

-- ---- their depths

-- what can be shown at record i is at most one deeper than j
abbrev Near : Memory → List ℕ → ℕ → ℕ → Type 0
Near m d i j = (k : ℕ) → k ≤ m.limit → k ≤ high_after i (last_before d i) → k ≤ suc j

-- one record more
by : (m : Memory) (d : List ℕ) (i n : ℕ) (P : List ℕ → Type 0) {b : Bool} {m' : Memory} → (shows m d i ≡ b) × (after m d i ≡ m')
    → P (cond b (i ∷ shown_places m' d (suc i) n) (shown_places m' d (suc i) n)) → P (shown_places m d i (suc n))
unfolding shown_places
by m d i n P e p = rw (e.0, e.1) p

places_follow : (m : Memory) (d : List ℕ) (i n j : ℕ) → Sound d → suc i + n ≤ records d → Near m d (suc i) j → Follows j (map (element_at d) (shown_places m d (suc i) n))
unfolding shown_places low_after high_after
places_follow m d i zero j s l near = tt
places_follow m d i (suc n) j s l near = go (turn m d (suc i)) (λ m' j' near'. places_follow m' d (suc i) n j' s (omega arith) near')
  where
    at : FreeAt d (suc i)
    at = sound-free d s (suc i) (omega arith)

    go : Turn m d (suc i) → ((m' : Memory) (j' : ℕ) → Near m' d (suc (suc i)) j' → Follows j' (map (element_at d) (shown_places m' d (suc (suc i)) n)))
        → Follows j (map (element_at d) (shown_places m d (suc i) (suc n)))
    go (passed h) ih =
        by m d (suc i) n (λ ps. Follows j (map (element_at d) ps)) (below-hidden m d (suc i) h)
        (ih m j (λ k a b. omega (arith, near m.limit (omega arith) (omega (arith, at.most)))))
    go (let-in h e) ih =
        by m d (suc i) n (λ ps. Follows j (map (element_at d) ps)) (lets_in m d (suc i) h e)
        (at.least, near (depth_at d (suc i)) h at.most, ih _ (depth_at d (suc i)) (λ k a b. omega arith))
    go (kept_out h e) ih =
        by m d (suc i) n (λ ps. Follows j (map (element_at d) ps)) (keeps_out m d (suc i) h e)
        (ih _ j (λ k a b. omega (arith, near (depth_at d (suc i)) h at.most)))

-- under a hidden root nothing is shown
none_follow : (m : Memory) (d : List ℕ) (i n : ℕ) → Sound d → suc i + n ≤ records d → m.limit ≡ 0 → shown_places m d (suc i) n ≡ []
unfolding shown_places low_after
none_follow m d i zero s l e = refl
none_follow m d i (suc n) s l e =
    by m d (suc i) n (λ ps. ps ≡ []) (below-hidden m d (suc i) (omega (arith, (sound-free d s (suc i) (omega arith)).least)))
    (none_follow m d (suc i) n s (omega arith) e)

-- nothing is shown, or the depths are in order
pub places-ordered : (d : List ℕ) (n : ℕ) → Sound d → n ≤ records d → (shown_places at_first d 0 n ≡ []) ⊎ Ordered (map (element_at d) (shown_places at_first d 0 n))
unfolding shown_places high_after
places-ordered d zero s l = inl refl
places-ordered d (suc n) s l = go (turn at_first d 0)
  where
    root : depth_at d 0 ≡ 0
    root = omega (arith, (sound-free d s 0 (omega arith)).most)

    go : Turn at_first d 0 → (shown_places at_first d 0 (suc n) ≡ []) ⊎ Ordered (map (element_at d) (shown_places at_first d 0 (suc n)))
    go (passed h) = let z : ⊥ = omega (arith, root) in absurd z
    go (let-in h e) =
        by at_first d 0 n (λ ps. (ps ≡ []) ⊎ Ordered (map (element_at d) ps)) (lets_in at_first d 0 h e)
        (inr (root, places_follow _ d 0 n 0 s (omega arith) (λ k a b. omega (arith, root))))
    go (kept_out h e) =
        by at_first d 0 n (λ ps. (ps ≡ []) ⊎ Ordered (map (element_at d) ps)) (keeps_out at_first d 0 h e)
        (inl (none_follow _ d 0 n s (omega arith) root))
