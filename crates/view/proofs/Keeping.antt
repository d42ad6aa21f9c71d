-- Laws of the records that are kept, whatever decides it. Assumes nothing.
use Rattle.std.proofs.Common.{◌≡◌, ℕ, suc, ◌+◌, ◌<◌, ◌≤◌, ◌↔◌, List, [], ◌∷◌, length, refl, ap, arith}
use Rattle.view.specs.View.{Keeps, done, kept, left}

-- they are determined
pub keeps_unique : {P : ℕ → Type 0} {i : ℕ} {rs a b : List (List ℕ)} → Keeps P i rs a → Keeps P i rs b → a ≡ b
keeps_unique done done = refl
keeps_unique (kept {r = r} p k) (kept q l) = ap {B = List (List ℕ)} (λ rs. r ∷ rs) (keeps_unique k l)
keeps_unique (kept p k) (left q l) = absurd (q p)
keeps_unique (left p k) (kept q l) = absurd (p q)
keeps_unique (left p k) (left q l) = keeps_unique k l

-- they are no more than there were
pub keeps_few : {P : ℕ → Type 0} {i : ℕ} {rs out : List (List ℕ)} → Keeps P i rs out → length out ≤ length rs
keeps_few done = omega arith
keeps_few (kept p k) = omega (arith, keeps_few k)
keeps_few (left p k) = omega (arith, keeps_few k)

-- where none may be kept, none is
pub keeps_none : {P : ℕ → Type 0} {i : ℕ} {rs out : List (List ℕ)} → Keeps P i rs out → ((j : ℕ) → j < i + length rs → P j → ⊥) → out ≡ []
keeps_none done f = refl
keeps_none (kept {i} p k) f = absurd (f i (omega arith) p)
keeps_none (left p k) f = keeps_none k (λ j l. f j (omega arith))

-- the same under another name of what decides it
pub keeps_iff : {P Q : ℕ → Type 0} {i : ℕ} {rs out : List (List ℕ)} → ((j : ℕ) → P j ↔ Q j) → Keeps P i rs out → Keeps Q i rs out
keeps_iff f done = done
keeps_iff f (kept {i} p k) = kept ((f i).0 p) (keeps_iff f k)
keeps_iff f (left {i} p k) = left (λ q. p ((f i).1 q)) (keeps_iff f k)

-- the same from one position later on
pub keeps_shift : {P : ℕ → Type 0} {i : ℕ} {rs out : List (List ℕ)} → Keeps (λ j. P (suc j)) i rs out → Keeps P (suc i) rs out
keeps_shift done = done
keeps_shift (kept p k) = kept p (keeps_shift k)
keeps_shift (left p k) = left p (keeps_shift k)
