-- The digits that are printed of a number are all of its digits, and how many they are at most. Assumes nothing.
use Rattle.std.proofs.Common.{◌≡◌, ℕ, zero, suc, ◌-◌, ◌/◌, ◌%◌, ◌^◌, ◌<◌, ◌≤◌, [], ◌∷◌, length, refl, ap, ◌∙◌, pow-suc, lt_of_not-le, arith, length-append, le-ltb, lt-ltb}
use native.Mathlib.Decide.{dec_le}
use Rattle.std.proofs.lemmas.Bool.Decides.{nat_tests}
use Rattle.io.specs.Digits.{hex_digit_ascii, last_digits, IsDigitCount}
use Rattle.programs.specs.Printing.{places, decimal}

above : (k : ℕ) → k < 10 ^ k
above zero = omega arith
above (suc k) = omega (arith, pow-suc 10 k, above k)

less : (j : ℕ) → suc j - 1 ≡ j
less j = omega arith

-- the fewest digits that hold a number are as many as it has
fewest_places : (most n k : ℕ) → k ≤ suc most → 1 ≤ k → n < 10 ^ k → (1 < k → 10 ^ (k - 1) ≤ n) → k ≡ places most n
unfolding places
fewest_places zero n k few some l m = omega arith
fewest_places (suc most) n zero few some l m = absurd (omega arith)
fewest_places (suc most) n (suc zero) few some l m = simp (lt-ltb n 10 l)
fewest_places (suc most) n (suc (suc j)) few some l m =
    let big : 10 ^ suc j ≤ n = rw (less (suc j)) at (m (omega arith)) in
    let p = pow-suc 10 j in
    let q = pow-suc 10 (suc j) in
    simp (le-ltb n 10 (omega (arith, above j)))
    (ap suc (fewest_places most (n / 10) (suc j) (omega arith) (omega arith) (omega arith) (λ h. rw (less j) (omega arith))))

-- the digits of a number, where they are the fewest
pub fewest_decimal : (n k : ℕ) → IsDigitCount 10 1 n k → last_digits 10 k n ≡ decimal n
unfolding decimal
fewest_decimal n k f = ap (λ (j : ℕ). last_digits 10 j n) (fewest_places n n k few f.0 f.1 f.2)
  where
    few : k ≤ suc n
    few = elim (dec_le k 1) [ yes one ↦ omega arith | no more ↦ omega (arith, lt_of_not-le more, f.2 (lt_of_not-le more), above (k - 1)) ]

digits_length : (k n : ℕ) → length (last_digits 10 k n) ≡ k
digits_length zero n = refl
digits_length (suc k) n = length-append (last_digits 10 k (n / 10)) (hex_digit_ascii (n % 10) ∷ []) ∙ omega (arith, digits_length k (n / 10))

places-most : (most k n : ℕ) → n < 10 ^ suc k → places most n ≤ suc k
unfolding places
places-most zero k n l = omega arith
places-most (suc most) zero n l = grind (arith, nat_tests)
places-most (suc most) (suc k) n l =
    let fewer = places-most most k (n / 10) (omega (arith, pow-suc 10 (suc k))) in
    grind (arith, nat_tests)

-- a number below a power of ten has at most so many digits
pub decimal-most : (k n : ℕ) → n < 10 ^ suc k → length (decimal n) ≤ suc k
unfolding decimal
decimal-most k n l = omega (arith, digits_length (places n n) n, places-most n k n l)
