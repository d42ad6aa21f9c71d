-- What stands for a whole input, of which a program keeps the front: at most so many records. Document 01, "Refusal numbers": 3 for an input that is too long. Assumes nothing: these are definitions.
use Rattle.std.specs.Prelude.{◌≡◌, ℕ, ◌+◌, ◌*◌, ◌%◌, ◌≤◌, ◌<◌, cond, List, length, take, nat_le}
use Rattle.dossier.specs.Limits.{width}

-- the length that stands for n bytes: n itself, and past the bytes of the most records one that is too long too and has the same rest
unfoldable pub stands_for : ℕ → ℕ → ℕ
stands_for most n = cond (nat_le n (most * width)) n (most * width + width + n % width)

-- what is kept of the bytes w: all of them, or where they are too many a part that stands for them
pub record Kept (most : ℕ) (w d : List ℕ) : Type 0 where
  pub stands : length d ≡ stands_for most (length w)
  pub same : length w ≤ most * width → d ≡ w

-- what can be promised of reading, since no contract says what a read brings: this length stands for the most records and some bytes more
pub record CountedOn (most n : ℕ) : Type 0 where
  pub more : ℕ
  pub stands : n ≡ stands_for most (most * width + more)

-- and the first n bytes of the area are what is kept of some input
pub record Gathered (most : ℕ) (area : List ℕ) (n : ℕ) : Type 0 where
  pub within : n ≤ length area
  pub whole : List ℕ
  pub kept : Kept most whole (take n area)

-- an area that has no room for all that can stand for an input is left as it was, and none of it is counted
pub record Unread (most : ℕ) (was area : List ℕ) (n : ℕ) : Type 0 where
  pub none : length was < most * width + 2 * width → n ≡ 0
  pub left : length was < most * width + 2 * width → area ≡ was
