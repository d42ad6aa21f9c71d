-- The words of effects, and how long they and a refusal's line are at most. Assumes nothing.
use Rattle.std.proofs.Common.{◌≡◌, ℕ, ◌≤◌, List, ◌++◌, length, append_assoc, arith, length-append}
use mir.Syntax.{w8, w64}
use mir.Val.{Fits}
use Rattle.dossier.specs.declared.elements.Effect.{Effect}
use Rattle.dossier.specs.declared.elements.Effect.TheVariants.{Deny as deny, Permit as permit}
use Rattle.dossier.specs.declared.Refusal.{Refusal}
use Rattle.programs.specs.Area.{Room}
use Rattle.programs.specs.Printing.{ascii, decimal, effect_word, refusal_text, most_refusal}
use Rattle.programs.proofs.Decimals.{decimal-most}

pub effect-most : (e : Effect) → length (effect_word e) ≤ 7
effect-most deny = omega arith
effect-most permit = omega arith

-- a refusal's line, part by part
pub refusal_parts : (f : Refusal)
    → refusal_text f ≡ ascii "refused " ++ (decimal f.number ++ (ascii " " ++ (decimal f.list ++ (ascii " " ++ (decimal f.position ++ ascii "\n")))))
unfolding refusal_text
refusal_parts f = simp append_assoc

-- an area that has room for the longest line has room for this one
pub refusal-room : (area : List ℕ) (f : Refusal) → Fits w8 f.number → Fits w8 f.list → Fits w64 f.position → most_refusal ≤ length area
    → Room area 0 (refusal_text f)
refusal-room area f a b c room = rw refusal_parts (record {
  enough =
      simp length-append
      (omega (arith, decimal-most 2 f.number (omega arith), decimal-most 2 f.list (omega arith), decimal-most 19 f.position (omega arith)));
})
