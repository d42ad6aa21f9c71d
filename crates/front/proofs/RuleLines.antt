-- The lines that are printed: the words of their numbers, one line after the other, and how long they are at most. Assumes nothing.
use Rattle.std.proofs.Common.{◌≡◌, ℕ, zero, suc, ◌+◌, ◌*◌, ◌<◌, ◌≤◌, List, [], ◌++◌, length, get_or, drop, sym, refl, ap, ap₂, ◌∙◌, add-zero, add-one, suc-mul, append_assoc, arith, length-append, drop-cons, drop-drop}
use Rattle.std.specs.Simd.{first_chunks}
use Rattle.dossier.specs.Limits.{width, most_elements}
use Rattle.dossier.specs.Elements.{effect_of}
use Rattle.dossier.specs.Bytes.{records, byte_of, record_at, run, joined}
use Rattle.dossier.proofs.Runs.{run_length}
use Rattle.dossier.proofs.Widths.{record_byte}
use Rattle.rules.specs.Rules.{reach_of, target_at, rule_at, rules_of}
use Rattle.rules.specs.declared.kinds.Reach.{Reach}
use Rattle.rules.specs.declared.kinds.Reach.TheVariants.{Itself as self, All as all}
use Rattle.programs.specs.Area.{Room}
use Rattle.programs.specs.Printing.{ascii, decimal}
use Rattle.programs.proofs.Decimals.{decimal-most}
use Rattle.programs.proofs.Words.{effect-most}
use Rattle.front.specs.Printing.{reach_word, line_of, rules_text}
use Rattle.front.specs.Inner.{most_text}

-- ---- lines

-- the line of a rule that stands alone in its bytes
abbrev pub line_alone : List ℕ → List ℕ
line_alone bytes = line_of (rule_at bytes 0)

-- in a list it has the same line
line_of-record : (rs : List ℕ) (i : ℕ) → line_of (rule_at rs i) ≡ line_alone (record_at rs i)
line_of-record rs i =
    let byte : (k : ℕ) → k < width → get_or (record_at rs i) k 0 ≡ byte_of rs i k = record_byte width rs i in
    simp (byte 0 (omega arith), byte 1 (omega arith), byte 2 (omega arith), byte 3 (omega arith), add-zero)

lines-run : (rs : List ℕ) (i n : ℕ) → joined line_of (run (rule_at rs) i n) ≡ joined line_alone (first_chunks width n (drop (i * width) rs))
lines-run rs i zero = refl
lines-run rs i (suc n) =
    ap₂ {C = List ℕ} (λ a b. a ++ b) (line_of-record rs i) (lines-run rs (suc i) n)
    ∙ simp (drop-drop, suc-mul)

-- the line of the count, and then a line for each record
pub rules_lines : (rs : List ℕ) (rules : List (List ℕ)) → rules ≡ first_chunks width (records rs) rs → length rules ≡ records rs
    → rules_text (rules_of rs) ≡ ascii "rules " ++ (decimal (length rules) ++ (ascii "\n" ++ joined line_alone rules))
unfolding rules_text rules_of
rules_lines rs rules e n =
    let lines : joined line_of (run (rule_at rs) 0 (records rs)) ≡ joined line_alone rules = lines-run rs 0 (records rs) ∙ ap (joined line_alone) (sym e) in
    rw (lines, run_length (rule_at rs) 0 (records rs), n) (ap (λ (t : List ℕ). ascii "rules " ++ t) (append_assoc (decimal (records rs)) (ascii "\n") (joined line_alone rules)))

pub lines_first : (rs : List (List ℕ)) (i : ℕ) → i < length rs
    → joined line_alone (drop i rs) ≡ line_alone (get_or rs i []) ++ joined line_alone (drop (i + 1) rs)
lines_first rs i l = rw (add-one i, drop-cons rs i [] l)

-- ---- how long they are

reach-most : (r : Reach) → length (reach_word r) ≤ 6
reach-most self = omega arith
reach-most all = omega arith

lines_most : (rs : List ℕ) (i n : ℕ) → ((k : ℕ) → k < i + n → target_at rs k < 10000) → length (joined line_of (run (rule_at rs) i n)) ≤ 17 * n
lines_most rs i zero small = omega arith
lines_most rs i (suc n) small =
    simp length-append
    (omega (
      arith,
      decimal-most 3 (target_at rs i) (small i (omega arith)),
      effect-most (effect_of (byte_of rs i 2)),
      reach-most (reach_of (byte_of rs i 3)),
      lines_most rs (suc i) n (λ k l. small k (omega arith)),
    ))

pub rules-room : (area rs : List ℕ) → ((k : ℕ) → k < records rs → target_at rs k < 10000) → records rs ≤ most_elements
    → most_text ≤ length area → Room area 0 (rules_text (rules_of rs))
unfolding rules_text rules_of
rules-room area rs small few room = record {
  enough =
      simp (length-append, run_length)
      (omega (arith, decimal-most 3 (records rs) (omega arith), lines_most rs 0 (records rs) (λ k l. small k (omega arith))));
}
