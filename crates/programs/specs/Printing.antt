-- What every program prints alike: words, numbers, an effect, a refusal. Document 01, "What is built": "one program". Assumes nothing: these are definitions.
use Rattle.std.specs.Prelude.{ℕ, zero, suc, ◌/◌, cond, List, [], ◌∷◌, ◌++◌, nat_lt}
use Prim.Native.Char.{code}
use Prim.Native.String.{String, [] as empty, ◌∷◌ as ◌then◌}
use Rattle.io.specs.Digits.{last_digits}
use Rattle.dossier.specs.declared.elements.Effect.{Effect}
use Rattle.dossier.specs.declared.elements.Effect.TheVariants.{Deny as deny, Permit as permit}
use Rattle.dossier.specs.declared.Refusal.{Refusal}

-- a text as bytes
abbrev pub ascii : String → List ℕ
ascii empty = []
ascii (c then s) = code c ∷ ascii s

-- how many decimal digits n has, looking at no more than `most` after the first
unfoldable pub places : ℕ → ℕ → ℕ
places zero n = 1
places (suc most) n = cond (nat_lt n 10) 1 (suc (places most (n / 10)))

-- a number in decimal
unfoldable pub decimal : ℕ → List ℕ
decimal n = last_digits 10 (places n n) n

-- a number in decimal and what ends it
abbrev pub ended : ℕ → String → List ℕ
ended n end = decimal n ++ ascii end

abbrev pub effect_word : Effect → List ℕ
effect_word deny = ascii " deny"
effect_word permit = ascii " permit"

-- `refused` and its three numbers, with single spaces
unfoldable pub refusal_text : Refusal → List ℕ
refusal_text f = ascii "refused " ++ (ended f.number " " ++ (ended f.list " " ++ ended f.position "\n"))

-- the most bytes that a refusal's line has
abbrev pub most_refusal : ℕ
most_refusal = 37
