-- Laws of records of any width, one after the other, whatever they stand for. Assumes nothing.
use Rattle.std.proofs.Common.{◌≡◌, ℕ, zero, suc, ◌+◌, ◌*◌, ◌<◌, ◌≤◌, List, [], ◌∷◌, ◌++◌, length, get_or, take, drop, sym, refl, ap, ◌∙◌, ap₂, add-zero, suc-mul, le-div_iff_mul-le, zero-add, mul-div_cancel, arith, length-append, length-drop, length-take-le, get_or-drop, take_all, drop-cons, get_or-take, drop-drop, get_or-append-add, ext_get_or, take-add}
use lib.ListN.{get_or-append}
use Rattle.dossier.specs.Bytes.{records_by, byte_by, record_by, run, joined}
use Rattle.dossier.proofs.Runs.{run_length, run_at}

-- ---- what was written

module _ {ℓ} {A : Type ℓ} (w : ℕ) (write : A → List ℕ) (wide : (x : A) → length (write x) ≡ w) where
  pub length-joined : (xs : List A) → length (joined write xs) ≡ length xs * w
  length-joined [] = omega arith
  length-joined (x ∷ xs) =
      omega (arith, length-append (write x) (joined write xs), wide x, length-joined xs, suc-mul (length xs) w)

  pub records-joined : (xs : List A) → 0 < w → records_by w (joined write xs) ≡ length xs
  records-joined xs some = rw (length-joined xs) (mul-div_cancel (length xs) some)

  -- byte k of record i
  pub byte_joined : (xs : List A) (i k : ℕ) (z : A) → i < length xs → k < w → byte_by w (joined write xs) i k ≡ get_or (write (get_or xs i z)) k 0
  byte_joined [] i k z l h = let y : ⊥ = omega arith in absurd y
  byte_joined (x ∷ xs) zero k z l h =
      let e : 0 * w + k ≡ k = omega arith in
      rw e (get_or-append (write x) (joined write xs) 0 k (omega (arith, wide x)))
  byte_joined (x ∷ xs) (suc i) k z l h =
      let e : suc i * w + k ≡ length (write x) + (i * w + k) = omega (arith, wide x, suc-mul i w) in
      rw e (get_or-append-add (write x) (joined write xs) (i * w + k) 0 ∙ byte_joined xs i k z (omega arith) h)

-- a reader that reads record by record what was written reads all of it
pub run-all {ℓ} : {A : Type ℓ} (read : ℕ → A) (xs : List A) (z : A) → ((i : ℕ) → i < length xs → read i ≡ get_or xs i z) → run read 0 (length xs) ≡ xs
run-all read xs z h =
    ext_get_or z (run read 0 (length xs)) xs (run_length read 0 (length xs))
    (λ i l. let k : i < length xs = rw run_length at l in run_at read 0 (length xs) i z k ∙ rw zero-add (h i k))

-- and a writer that writes record by record what was read writes the bytes again
pub joined-run {ℓ} : {A : Type ℓ} (w : ℕ) (write : A → List ℕ) (d : List ℕ) (read : ℕ → A) (i n : ℕ)
    → ((k : ℕ) → i ≤ k → k < i + n → write (read k) ≡ record_by w d k) → joined write (run read i n) ≡ take (n * w) (drop (i * w) d)
joined-run w write d read i zero h = let e : 0 * w ≡ 0 = omega arith in rw e
joined-run w write d read i (suc n) h =
    let e : suc n * w ≡ w + n * w = omega (arith, suc-mul n w) in
    ap₂ ◌++◌ (h i (omega arith) (omega arith)) (joined-run w write d read (suc i) n (λ k a b. h k (omega arith) (omega arith)))
    ∙ rw (e, take-add, drop-drop, suc-mul i w)

-- ---- a record that is there

-- the bytes from p + k on, by index
bytes-from : (d : List ℕ) (p k n : ℕ) → p + k + n ≤ length d → take n (drop (p + k) d) ≡ run (λ j. get_or d (p + j) 0) k n
bytes-from d p k zero l = refl
bytes-from d p k (suc n) l =
    let e : suc (p + k) ≡ p + suc k = omega arith in
    rw (drop-cons d (p + k) 0 (omega arith), e) (ap (◌∷◌ (get_or d (p + k) 0)) (bytes-from d p (suc k) n (omega arith)))

module _ (w : ℕ) (d : List ℕ) (i : ℕ) where
  -- it ends within the bytes
  record-ends : 0 < w → i < records_by w d → i * w + w ≤ length d
  record-ends some there = omega (arith, (le-div_iff_mul-le {k = w} {x = suc i} {y = length d} some).0 there, suc-mul i w)

  pub record-long : 0 < w → i < records_by w d → length (record_by w d i) ≡ w
  record-long some there = length-take-le w (drop (i * w) d) (omega (arith, length-drop (i * w) d, record-ends some there))

  pub record_byte : (k : ℕ) → k < w → get_or (record_by w d i) k 0 ≡ byte_by w d i k
  record_byte k l = get_or-take w (drop (i * w) d) k 0 l ∙ get_or-drop (i * w) d k 0

  pub record-bytes : 0 < w → i < records_by w d → record_by w d i ≡ run (byte_by w d i) 0 w
  record-bytes some there =
      ap (λ j. take w (drop j d)) (sym (add-zero (i * w))) ∙ bytes-from d (i * w) 0 w (omega (arith, record-ends some there))

-- bytes that are as many as a record has are a record
pub bytes_alone : (w : ℕ) (bytes : List ℕ) → length bytes ≡ w → run (byte_by w bytes 0) 0 w ≡ bytes
bytes_alone w bytes e =
    let z : 0 * w ≡ 0 = omega arith in
    ap (λ (i : ℕ). run (λ k. get_or bytes (i + k) 0) 0 w) z ∙ sym (bytes-from bytes 0 0 w (omega arith)) ∙ take_all w bytes (omega arith)
