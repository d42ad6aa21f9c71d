-- What is shown are the records of the elements that belong in the view. Assumes nothing.
use Rattle.std.proofs.Common.{◌≡◌, ℕ, zero, suc, ◌+◌, ◌<◌, ◌≤◌, Bool, true, cond, List, [], ◌∷◌, sym, ◌∙◌, arith, le-ltb}
use mathlib.Core.Bool.{false≢true}
use Rattle.dossier.specs.Elements.{Element, marks_of}
use Rattle.dossier.specs.Bytes.{records, run, record_at, records_of, depth_at, element_at, elements_of}
use Rattle.dossier.specs.Below.{deeper}
use Rattle.dossier.specs.Reading.{Sound}
use Rattle.dossier.specs.declared.elements.Decision.{Decision}
use Rattle.dossier.specs.declared.elements.Decision.TheVariants.{Permit}
use Rattle.marks.specs.Marks.{first}
use Rattle.marks.specs.Walking.{walk}
use Rattle.view.specs.View.{Keeps, done, kept, left, IsView}
use Rattle.view.specs.Inner.{Memory, at_first, no_limit, shows, after, shown_from, shown_of}
use Rattle.view.proofs.Keeping.{keeps_iff, keeps_shift}
use Rattle.view.proofs.Remembering.{below-hidden, lets_in, keeps_out, Turn, passed, let-in, kept_out, turn}
use Rattle.view.proofs.Above.{Open, hidden-first, hidden-rest, permitted-first, permitted-rest, denied_first, denied_rest}
use Rattle.view.proofs.Seeing.{Sees, sees_first, seen_answer, next, sees_hidden, sees-answer, sees-next}

-- the walk's answers from record i on
abbrev answers : List ℕ → List Decision → ℕ → ℕ → List Decision
answers d st i n = walk first st (run (element_at d) i n) (marks_of (run (element_at d) i n))

-- no element is too deep for the limit that is none
unlimited : (d : List ℕ) (i n j : ℕ) → Sound d → i + n ≤ records d → deeper no_limit (run (element_at d) i n) (suc j) ≡ true → ⊥
unfolding deeper
unlimited d i zero j s m q = false≢true q
unlimited d i (suc n) j s m q = false≢true (rw (le-ltb no_limit (depth_at d i) (omega (arith, s.shallow i (omega arith)))) at q)

-- `out` are those of the n records from record i on that belong, and nothing before them hides
abbrev Left : ℕ → List ℕ → List Decision → ℕ → ℕ → List (List ℕ) → Type 0
Left limit d st i n out = Keeps (Open limit (run (element_at d) i n) (answers d st i n)) 0 (run (record_at d) i n) out

-- one record, and what is left after it
module _ (d : List ℕ) (i n : ℕ) (m : Memory) (st : List Decision) (at : Sees d i m st) (s : Sound d) (l : i + suc n ≤ records d) where
  there : i < records d
  there = omega arith

  abbrev es : List Element
  es = run (element_at d) (suc i) n

  abbrev given : Decision
  given = seen_answer d i at s there

  abbrev st' : List Decision
  st' = next d i at s there

  abbrev rest : List Decision
  rest = answers d st' (suc i) n

  abbrev Goal : Type 0
  Goal = Left m.limit d st i (suc n) (shown_from m d i (suc n))

  by : {b : Bool} {m' : Memory} → (shows m d i ≡ b) × (after m d i ≡ m')
      → Left m.limit d st i (suc n) (cond b (record_at d i ∷ shown_from m' d (suc i) n) (shown_from m' d (suc i) n)) → Goal
  unfolding shown_from
  by p k = rw (p.0, p.1) k

  left-next : ((m' : Memory) → Sees d (suc i) m' st' → Left m'.limit d st' (suc i) n (shown_from m' d (suc i) n)) → Goal
  left-next ih = go (turn m d i)
    where
      go : Turn m d i → Goal
      go (passed h) =
          by (below-hidden m d i h)
          (left (hidden-first m.limit (element_at d i) es given rest h)
          (keeps_shift (keeps_iff (hidden-rest m.limit (element_at d i) es given rest h) (ih m (sees_hidden d i at s there h)))))
      go (let-in h e) =
          let p : given ≡ Permit = sym (sees-answer d i at s there h) ∙ e in
          by (lets_in m d i h e)
          (kept (permitted-first m.limit (element_at d i) es given rest h p)
          (keeps_shift (keeps_iff
          (λ j. permitted-rest m.limit (element_at d i) es given rest h p no_limit j (unlimited d (suc i) n j s (omega arith)))
          (ih _ (sees-next d i at s there h no_limit)))))
      go (kept_out h e) =
          let p : given ≡ Permit → ⊥ = λ x. e (sees-answer d i at s there h ∙ x) in
          by (keeps_out m d i h e)
          (left (denied_first m.limit (element_at d i) es given rest p)
          (keeps_shift (keeps_iff (denied_rest m.limit (element_at d i) es given rest h p) (ih _ (sees-next d i at s there h (depth_at d i))))))

shown-left : (d : List ℕ) (i n : ℕ) (m : Memory) (st : List Decision) → Sees d i m st → Sound d → i + n ≤ records d → Left m.limit d st i n (shown_from m d i n)
unfolding shown_from
shown-left d i zero m st at s l = done
shown-left d i (suc n) m st at s l = left-next d i n m st at s l (λ m' sees. shown-left d (suc i) n m' (st' d i n m st at s l) sees s (omega arith))

-- of a sound dossier, what is shown is the view
pub shown-view : (d : List ℕ) → Sound d → IsView d (shown_of d)
unfolding elements_of records_of shown_of
shown-view d s =
    keeps_iff (λ j. (λ o. o.1, λ b. (unlimited d 0 (records d) j s (omega arith), b)))
    (shown-left d 0 (records d) at_first [] (sees_first d) s (omega arith))
