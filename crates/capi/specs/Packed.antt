-- Replies as one number of 64 bits, for callers in other languages. Document 01, "Refusal numbers" and "Least marks", for a caller in C. Assumes nothing: these are definitions.
use Rattle.std.specs.Prelude.{◌≡◌, ℕ, ◌+◌, ◌*◌, ◌%◌, cond, List, [], ◌∷◌, length, get_or, ◌==◌, Result, Ok, Err}
use Rattle.dossier.specs.Numbers.{refusal_numbers, reply_numbers, answer_numbers}
use Rattle.dossier.specs.declared.Refusal.{Refusal}
use Rattle.least.specs.Judging.{verdict_numbers}
use Rattle.least.specs.declared.Verdict.{Verdict}
use Rattle.dossier.specs.declared.elements.Decision.{Decision}
use Rattle.least.specs.declared.Report.{Report}

-- one number as it is, and the three of a refusal: 2^63 + number * 2^40 + list * 2^32 + position; a position is below 2^32
abbrev pub packed_numbers : List ℕ → ℕ
packed_numbers ns =
    cond (length ns == 1) (get_or ns 0 0)
    (9223372036854775808 + get_or ns 0 0 * 1099511627776 + get_or ns 1 0 * 4294967296 + get_or ns 2 0 % 4294967296)

abbrev pub packed_refusal : Refusal → ℕ
packed_refusal f = packed_numbers (refusal_numbers f)

abbrev pub packed_reply : Result ℕ Refusal → ℕ
packed_reply r = packed_numbers (reply_numbers r)

abbrev pub packed_answer : Result Decision Refusal → ℕ
packed_answer a = packed_numbers (answer_numbers a)

-- number * 2^16 + verdict * 2^32 + answer * 2^34, where 0 stands for what a verdict hasn't; a number is below 2^16
abbrev pub packed_verdict : Verdict → ℕ
packed_verdict v =
    get_or (verdict_numbers v) 1 0 % 65536 * 65536 + get_or (verdict_numbers v) 0 0 * 4294967296 + get_or (verdict_numbers v) 2 0 * 17179869184

abbrev pub packed_judgement : Result Report Refusal → ℕ
packed_judgement (Ok r) = r.count % 65536 + packed_verdict r.verdict
packed_judgement (Err f) = packed_refusal f

-- the number packs a reply that the library's promise allows
pub record Packs {A : Type 0} (pack : A → ℕ) (Allowed : A → Type 0) (number : ℕ) : Type 0 where
  pub reply : A
  pub allowed : Allowed reply
  pub packed : number ≡ pack reply

-- eight bytes of a deciding rule, or the area as it was
abbrev pub part_after : List ℕ → List ℕ → List ℕ
part_after [] was = was
part_after (x ∷ part) was = x ∷ part
