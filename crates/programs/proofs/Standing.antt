-- The laws of what stands for the whole input: counting on from it is counting on from the whole, and the reader replies to it as to the whole. Assumes nothing.
use Rattle.std.proofs.Common.{◌≡◌, ℕ, ◌+◌, ◌*◌, ◌%◌, ◌<◌, ◌≤◌, List, ◌++◌, length, take, replicate, sym, refl, ap, ◌∙◌, append-nil, lt_of_not-le, arith, length-append, length-take-le, lt-ltb, ne_eqb}
use native.Mathlib.Decide.{dec_le}
use Rattle.std.proofs.lemmas.Bool.Decides.{nat_tests}
use lib.ListN.{length-replicate}
use Rattle.dossier.specs.Limits.{width, most_elements}
use Rattle.dossier.specs.Reading.{read_of}
use Rattle.programs.specs.Standing.{stands_for, Kept, CountedOn, Gathered}

module _ (most : ℕ) where
  pub stands-few : (n : ℕ) → n ≤ most * width → stands_for most n ≡ n
  unfolding stands_for
  stands-few n few = grind (arith, nat_tests)

  pub stands_many : (n : ℕ) → most * width < n → stands_for most n ≡ most * width + width + n % width
  unfolding stands_for
  stands_many n many = grind (arith, nat_tests)

  -- what stands for a length is less than two records over the most
  stands-below : (r n : ℕ) → r ≡ stands_for most n → r < most * width + 2 * width
  unfolding stands_for
  stands-below r n e = grind (arith, nat_tests)

  -- counting on from what stands for a total is counting on from the total
  stands_on : (total more : ℕ) → stands_for most (stands_for most total + more) ≡ stands_for most (total + more)
  unfolding stands_for
  stands_on total more = grind (arith, nat_tests)

-- ---- a dossier

-- too many bytes are refused by their number alone
many_read : (d w : List ℕ) → most_elements * width < length d → most_elements * width < length w → length d % width ≡ length w % width → read_of d ≡ read_of w
unfolding read_of
many_read d w a b e =
    simp (lt-ltb (most_elements * width) (length d) a, lt-ltb (most_elements * width) (length w) b, ne_eqb (length d) 0 (λ z. omega arith), ne_eqb (length w) 0 (λ z. omega arith), e)

-- the reader replies to what is kept as to the whole
pub kept_read : (w d : List ℕ) → Kept most_elements w d → read_of d ≡ read_of w
kept_read w d kept = elim (dec_le (length w) (most_elements * width)) [
  | yes few ↦ ap read_of (kept.same few)
  | no other ↦ (
      let e = kept.stands ∙ stands_many most_elements (length w) (lt_of_not-le other) in
      many_read d w (omega (arith, e)) (lt_of_not-le other) (omega (arith, e)))
]

-- ---- reading

module _ {most : ℕ} where
  -- before anything more is read, and after some more
  pub counted_none : CountedOn most (most * width)
  counted_none = record { more = 0; stands = sym (stands-few most (most * width + 0) (omega arith) ∙ omega arith) }

  pub counted-more : (total n r : ℕ) → CountedOn most total → r ≡ stands_for most (total + n) → CountedOn most r
  counted-more total n r on e = record {
    more = on.more + n;
    stands =
        e ∙ ap (λ (x : ℕ). stands_for most (x + n)) on.stands
        ∙ stands_on most (most * width + on.more) n ∙ ap (stands_for most) (omega arith);
  }

module _ {most : ℕ} (area : List ℕ) (n : ℕ) where
  -- an input that ends before the most bytes is kept as it is
  pub gathered-all : n ≤ most * width → n ≤ length area → Gathered most area n
  gathered-all few within = record {
    within = within;
    whole = take n area;
    kept = record {
      stands = sym (stands-few most (length (take n area)) (omega (arith, length-take-le n area within)));
      same = λ _. refl;
    };
  }

  -- of a longer one the most bytes are kept
  pub gathered-front : most * width + 2 * width ≤ length area → CountedOn most n → Gathered most area n
  gathered-front room on =
      let within : n ≤ length area = omega (arith, stands-below most n (most * width + on.more) on.stands) in
      let front = length-take-le (most * width) area (omega arith) in
      let long : length (take (most * width) area ++ replicate on.more 0) ≡ most * width + on.more =
      length-append (take (most * width) area) (replicate on.more 0) ∙ omega (arith, front, length-replicate {A = ℕ} on.more 0) in
      record {
        within = within;
        whole = take (most * width) area ++ replicate on.more 0;
        kept = record {
          stands = length-take-le n area within ∙ on.stands ∙ ap (stands_for most) (sym long);
          same = λ few.
              let none : on.more ≡ 0 = omega (arith, long) in
              let all : n ≡ most * width = on.stands ∙ stands-few most (most * width + on.more) (omega (arith, none)) ∙ omega (arith, none) in
              ap (λ (k : ℕ). take k area) all ∙ sym (append-nil (take (most * width) area))
              ∙ ap (λ (k : ℕ). take (most * width) area ++ replicate k 0) (sym none);
        };
      }

-- for the checker's search: what is read stands for an input
pub ruleset standing = (counted_none, counted-more, gathered-all, gathered-front)
