-- A walk step gives the first refusal of its order: 17, 2, 3, then 5, 4 and 6 of the record. Assumes nothing.
use Rattle.std.proofs.Common.{◌≡◌, ℕ, ◌≤◌, ◌≢◌, List, length, refl, ap, lt_of_not-le, arith, Result, Err}
use native.Mathlib.Decide.{ℕ_discrete, dec_le}
use Rattle.dossier.specs.Limits.{width, most_elements}
use Rattle.dossier.specs.Reading.{fields_at}
use Rattle.dossier.specs.Refusing.{Refusals, ◌before◌, first, later}
use Rattle.dossier.specs.declared.Refusal.{Refusal}
use Rattle.dossier.proofs.Orders.{Never, Refuses, here, on, none, row_here, row_never}
use Rattle.dossier.proofs.Rows.{Fault, nothing, four, five, six, fault}
use Rattle.marks.specs.Stepping.{refused_step, accepted_step, take_of, is_given, Leaves, Steps}
use Rattle.marks.specs.declared.Walk.{Walk}
use Rattle.marks.specs.declared.Stepped.{Stepped}
use Rattle.marks.proofs.Takes.{fault_next, take_short, take-full, take-faulty, take-good}
use Rattle.marks.proofs.Determined.{leaves?}
use Rattle.marks.proofs.Keeping.{refused-unchanged}
use Rattle.demands.specs.Refusing.{never_left, not_one_record, all_taken, too_deep, out_of_order, bad_field}
use Rattle.dossier.specs.declared.elements.Decision.{Decision}

free-both : {P Q : Refusals} → Never P → Never Q → Never (P before Q)
free-both n m f (first p) = n f p
free-both n m f (later h q) = m f q

-- ---- the record

module _ (w : Walk) (r : List ℕ) where
  -- 5, 4 and 6
  abbrev faulty : Refusals
  faulty = too_deep w r before out_of_order w r before bad_field w r

  abbrev refused_by : ℕ → Result Decision Refusal
  refused_by n = Err (record { number = n; list = 0; position = w.taken })

  -- what a fault's number, or 0, says
  record Faults (n : ℕ) : Type 0 where
    clear : n ≡ 0 → Never faulty
    given : n ≢ 0 → Refuses (refused_by n) faulty

  number : (n : ℕ) → n ≢ 0 → Refuses (refused_by n) faulty → Faults n
  number n h g = record { clear = λ e. absurd (h e); given = λ m. g }

  faults : Faults (fault_next w r)
  faults = go (fault w.taken w.depth (fields_at r 0))
    where
      go : {n : ℕ} → Fault w.taken w.depth (fields_at r 0) n → Faults n
      go (nothing f) = record {
        clear = λ e. free-both (row_never f.0) (free-both (row_never f.1) (row_never f.2));
        given = λ n. absurd (n refl);
      }
      go (five t) = number 5 (λ e. omega arith) (here (row_here 5 0 _ _ t))
      go (four f o) = number 4 (λ e. omega arith) (on (row_never f) (here (row_here 4 0 _ _ o)))
      go (six f o b) = number 6 (λ e. omega arith) (on (row_never f) (on (row_never o) (row_here 6 0 _ _ b)))

  -- a walk that can be left takes the record, or refuses it: 2, 3, then its fault
  take-refused : Refuses (take_of w r).answer (not_one_record r before all_taken w before faulty)
  unfolding refused_step accepted_step
  take-refused = go (ℕ_discrete (length r) width) (dec_le most_elements w.taken) (ℕ_discrete (fault_next w r) 0)
    where
      go : Dec (length r ≡ width) → Dec (most_elements ≤ w.taken) → Dec (fault_next w r ≡ 0)
          → Refuses (take_of w r).answer (not_one_record r before all_taken w before faulty)
      go (no n) m z = rw (take_short w r n) (here (row_here 2 0 0 _ n))
      go (yes e) (yes m) z = rw (take-full w r e m) (on (row_never (λ n. n e)) (here (row_here 3 0 0 _ m)))
      go (yes e) (no m) (no n) =
          rw (take-faulty w r e (lt_of_not-le m) refl n) (on (row_never (λ n. n e)) (on (row_never m) (faults.given n)))
      go (yes e) (no m) (yes z) =
          rw (take-good w r e (lt_of_not-le m) refl z)
          (on (row_never (λ n. n e)) (on (row_never m) (none (faults.clear z) (λ f e. let z : ◌≡◌ {A = ℕ} 0 1 = cc in omega arith))))

-- ---- the step

pub step-refused : (w : Walk) (r : List ℕ) (s : Stepped) → Steps w r s
    → Refuses s.answer (never_left w before not_one_record r before all_taken w before too_deep w r before out_of_order w r before bad_field w r)
unfolding refused_step
step-refused w r s t = go (leaves? w)
  where
    go : Dec (Leaves w)
        → Refuses s.answer (never_left w before not_one_record r before all_taken w before too_deep w r before out_of_order w r before bad_field w r)
    go (yes left) = rw (t.takes left) (on (row_never (λ n. n left)) (take-refused w r))
    go (no never) = rw (t.refuses never) (here (row_here 17 0 0 _ never))

pub step-unchanged : (w : Walk) (r : List ℕ) (s : Stepped) (f : Refusal) → Steps w r s → s.answer ≡ Err f → s.walk ≡ w
step-unchanged w r s f t e = refused-unchanged w r s t (ap is_given e)
