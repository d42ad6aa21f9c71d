-- A combining and its number stand for each other, and a number over the last is refused by 11. Assumes nothing.
use Rattle.std.proofs.Common.{◌≡◌, ℕ, zero, suc, ◌<◌, ◌≤◌, Bool, true, false, cond, ltb, sym, refl, arith, ltb-false, ltb-true, Ok, Err}
use Rattle.dossier.specs.Replies.{refusal}
use Rattle.dossier.specs.declared.Refusal.{Refusal}
use Rattle.rules.specs.Combining.{combining_number, last_combining, combining_of}
use Rattle.rules.specs.Deciding.{combining_asked}
use Rattle.rules.specs.declared.kinds.Combining.{Combining}
use Rattle.rules.specs.declared.kinds.Combining.TheVariants.{FirstApplicable as first_applicable, DenyOverrides as deny_overrides, PermitOverrides as permit_overrides}

pub of_number : (c : Combining) → combining_of (combining_number c) ≡ c
of_number first_applicable = refl
of_number deny_overrides = refl
of_number permit_overrides = refl

pub number_of : (n : ℕ) → n ≤ last_combining → combining_number (combining_of n) ≡ n
number_of zero l = refl
number_of (suc zero) l = refl
number_of (suc (suc zero)) l = refl
number_of (suc (suc (suc n))) l = let z : ⊥ = omega arith in absurd z

pub number-few : (c : Combining) → combining_number c ≤ last_combining
number-few first_applicable = omega arith
number-few deny_overrides = omega arith
number-few permit_overrides = omega arith

pub combining_given : (n : ℕ) {c : Combining} → combining_asked n ≡ Ok c → (n ≤ last_combining) × (c ≡ combining_of n)
combining_given n {c} e = go (ltb last_combining n) refl e
  where
    go : (t : Bool) → ltb last_combining n ≡ t → cond t (refusal 11 0 0) (Ok (combining_of n)) ≡ Ok c → (n ≤ last_combining) × (c ≡ combining_of n)
    go false p q = (ltb-false last_combining n p, cc)
    go true p q = let z : ◌≡◌ {A = ℕ} 0 1 = cc in let y : ⊥ = omega arith in absurd y

pub combining_refused : (n : ℕ) {f : Refusal} → combining_asked n ≡ Err f → (last_combining < n) × (Err f ≡ refusal {A = Combining} 11 0 0)
combining_refused n {f} e = go (ltb last_combining n) refl e
  where
    go : (t : Bool) → ltb last_combining n ≡ t → cond t (refusal 11 0 0) (Ok (combining_of n)) ≡ Err f → (last_combining < n) × (Err f ≡ refusal {A = Combining} 11 0 0)
    go true p q = (ltb-true last_combining n p, sym q)
    go false p q = let z : ◌≡◌ {A = ℕ} 0 1 = cc in let y : ⊥ = omega arith in absurd y
