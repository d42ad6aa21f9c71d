-- What the functions inside the view promise each other. A reader of what the view promises may skip it. Assumes nothing: these are definitions.
use Rattle.std.specs.Prelude.{ℕ, zero, suc, List, [], ◌∷◌, Bool, true, false, cond, replicate, nat_lt}
use Rattle.dossier.specs.Limits.{deepest}
use Rattle.dossier.specs.Bytes.{records, byte_of, record_at, joined, depth_at}
use Rattle.dossier.specs.declared.elements.Decision.{Decision}
use Rattle.dossier.specs.declared.elements.Decision.TheVariants.{Deny, Permit, None}
use Rattle.marks.specs.Lent.{lent_answer, lent_after}

-- what a pass remembers before a record: what each open depth hands down, as far as the limit; and the limit, which a record exceeds in depth exactly if it lies below a hidden one
pub record Memory : Type 0 where
  pub handed : List ℕ
  pub limit : ℕ

abbrev pub memory : List ℕ → ℕ → Memory
memory handed limit = record { handed = handed; limit = limit }

-- a limit deeper than every record: nothing above is hidden
abbrev pub no_limit : ℕ
no_limit = suc deepest

-- before the first record nothing is hidden, and none is handed down
abbrev pub at_first : Memory
at_first = memory (replicate (suc deepest) 2) no_limit

-- does record i lie below a hidden one
unfoldable pub hidden : Memory → List ℕ → ℕ → Bool
hidden m d i = nat_lt m.limit (depth_at d i)

-- is this the answer that shows
abbrev pub permits : Decision → Bool
permits Deny = false
permits Permit = true
permits None = false

-- where it doesn't, does the walk answer it with permit
unfoldable pub permitted : Memory → List ℕ → ℕ → Bool
permitted m d i = permits (lent_answer m.handed (depth_at d i) (byte_of d i 1) (byte_of d i 2))

-- is it shown
unfoldable pub shows : Memory → List ℕ → ℕ → Bool
shows m d i = cond (hidden m d i) false (permitted m d i)

-- what is remembered after it: one below a hidden record changes nothing, a permitted one lifts the limit, and any other sets it to its depth
unfoldable pub after : Memory → List ℕ → ℕ → Memory
after m d i =
    cond (hidden m d i) m
    (memory (lent_after m.handed (depth_at d i) (byte_of d i 1) (byte_of d i 2)) (cond (permitted m d i) no_limit (depth_at d i)))

-- those of the n records from record i on that are shown
unfoldable pub shown_from : Memory → List ℕ → ℕ → ℕ → List (List ℕ)
shown_from m d i zero = []
shown_from m d i (suc n) =
    let rest = shown_from (after m d i) d (suc i) n in
    cond (shows m d i) (record_at d i ∷ rest) rest

-- the records that are shown
unfoldable pub shown_of : List ℕ → List (List ℕ)
shown_of d = shown_from at_first d 0 (records d)

-- the bytes of shown records
abbrev pub bytes_of : List (List ℕ) → List ℕ
bytes_of rs = joined (λ r. r) rs
