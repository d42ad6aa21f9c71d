-- What is printed is one text, and it speaks of the whole input though only its front is kept. Assumes nothing.
use Rattle.std.proofs.Common.{◌≡◌, ℕ, ◌*◌, ◌<◌, List, length, sym, refl, ap, ◌∙◌, subst, ap₂, lt_of_not-le, arith, Result, Ok, Err}
use native.Mathlib.Decide.{dec_le}
use Rattle.dossier.specs.Limits.{width, most_elements}
use Rattle.dossier.specs.Reading.{read_of}
use Rattle.dossier.proofs.Sounds.{counted-sound}
use Rattle.marks.specs.Marks.{first}
use Rattle.marks.specs.Walking.{walked}
use Rattle.least.specs.Folding.{FoldedAfter}
use Rattle.least.proofs.Determined.{folded_unique}
use Rattle.programs.specs.Standing.{Kept}
use Rattle.programs.proofs.Standing.{kept_read}
use Rattle.front.specs.Printing.{text_after, Printed}
use Rattle.dossier.specs.declared.Refusal.{Refusal}

-- any two texts that may be printed of a dossier are equal
pub printed_unique : (d t u : List ℕ) → Printed d t → Printed d u → t ≡ u
printed_unique d t u a b =
    let same = folded_unique d a.reply b.reply a.new b.new a.folded b.folded in
    a.says ∙ ap₂ {C = List ℕ} (λ x y. text_after x y) same.0 same.1 ∙ sym b.says

-- ---- the whole input

-- too many bytes are refused, and the same refusal is printed
refused-whole : (w d t : List ℕ) → most_elements * width < length w → read_of d ≡ read_of w → Printed d t → Printed w t
refused-whole w d t many same p = go (read_of w) refl
  where
    go : (q : Result ℕ Refusal) → read_of w ≡ q → Printed w t
    go (Ok n) e = absurd (omega (arith, (counted-sound w n e).few))
    go (Err f) e =
        let f-d : FoldedAfter (walked first) (Err f) d p.reply p.new = rw (same ∙ e) at p.folded in
        record {
          reply = Err f;
          new = w;
          folded = rw e (refl, refl);
          says = p.says ∙ ap (λ (q : Result ℕ Refusal). text_after q p.new) f-d.0;
        }

-- what is printed of what is kept is what is printed of the whole input
pub printed-whole : (w d t : List ℕ) → Kept most_elements w d → Printed d t → Printed w t
printed-whole w d t kept p = elim (dec_le (length w) (most_elements * width)) [
  | yes few ↦ subst (λ (x : List ℕ). Printed x t) (kept.same few) p
  | no other ↦ refused-whole w d t (lt_of_not-le other) (kept_read w d kept) p
]
