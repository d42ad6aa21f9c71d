-- What is packed can be told apart: a refusal's number is 2^63 or more and a success's is less, and two replies that fit have one number only where they are one reply. Assumes nothing.
use Rattle.std.proofs.Common.{◌≡◌, ℕ, ◌+◌, ◌*◌, ◌/◌, ◌%◌, ◌<◌, ◌≤◌, sym, refl, ap, ◌∙◌, mod-eq_of_lt, arith, Result, Ok, Err}
use Rattle.dossier.specs.Elements.{decision_number}
use Rattle.dossier.specs.declared.elements.Decision.{Decision}
use Rattle.dossier.specs.declared.elements.Decision.TheVariants.{Deny, Permit, None}
use Rattle.dossier.specs.declared.Refusal.{Refusal}
use Rattle.least.specs.declared.Verdict.{Verdict}
use Rattle.least.specs.declared.Verdict.TheVariants as verdict
use Rattle.least.specs.declared.Report.{Report}
use Rattle.capi.specs.Packed.{packed_refusal, packed_reply, packed_answer, packed_verdict, packed_judgement}

-- ---- what fits its place in the number, so that nothing of it is lost

pub record SmallRefusal (f : Refusal) : Type 0 where
  pub number : f.number < 256
  pub list : f.list < 256
  pub position : f.position < 4294967296

abbrev pub FitsReply : Result ℕ Refusal → Type 0
FitsReply (Ok n) = n < 9223372036854775808
FitsReply (Err f) = SmallRefusal f

abbrev pub FitsAnswer : Result Decision Refusal → Type 0
FitsAnswer (Ok v) = Unit {0}
FitsAnswer (Err f) = SmallRefusal f

abbrev pub FitsVerdict : Verdict → Type 0
FitsVerdict verdict.Least = Unit {0}
FitsVerdict (verdict.Longer n) = n < 65536
FitsVerdict (verdict.Wrong i a) = i < 65536

abbrev pub FitsJudgement : Result Report Refusal → Type 0
FitsJudgement (Ok r) = (r.count < 65536) × FitsVerdict r.verdict
FitsJudgement (Err f) = SmallRefusal f

-- ---- a refusal's number, and a success's

pub refusal-high : (f : Refusal) → 9223372036854775808 ≤ packed_refusal f
refusal-high f = omega arith

pub decision-small : (v : Decision) → decision_number v ≤ 2
decision-small Deny = omega arith
decision-small Permit = omega arith
decision-small None = omega arith

pub verdict_small : (v : Verdict) → packed_verdict v < 68719476736
verdict_small verdict.Least = omega arith
verdict_small (verdict.Longer n) = omega arith
verdict_small (verdict.Wrong i a) = omega (arith, decision-small a)

report_low : (r : Report) → packed_judgement (Ok r) < 9223372036854775808
report_low r = omega (arith, verdict_small r.verdict)

-- ---- what is read from the number is what was packed

pub refusal-number : (f : Refusal) → SmallRefusal f → packed_refusal f / 1099511627776 % 256 ≡ f.number
refusal-number f s = omega arith

pub refusal-list : (f : Refusal) → SmallRefusal f → packed_refusal f / 4294967296 % 256 ≡ f.list
refusal-list f s = omega arith

pub refusal-position : (f : Refusal) → SmallRefusal f → packed_refusal f % 4294967296 ≡ f.position
refusal-position f s = omega arith

-- ---- one number, one reply

fields_one : {a b c x y z : ℕ} → a ≡ x → b ≡ y → c ≡ z
    → ◌≡◌ {A = Refusal} (record { number = a; list = b; position = c }) (record { number = x; list = y; position = z })
fields_one p q r = cc

refusal-one : (f g : Refusal) → SmallRefusal f → SmallRefusal g → packed_refusal f ≡ packed_refusal g → f ≡ g
refusal-one f g s t e = fields_one (omega arith) (omega arith) (omega arith)

decision-one : (v w : Decision) → decision_number v ≡ decision_number w → v ≡ w
decision-one Deny Deny e = refl
decision-one Deny Permit e = absurd (omega arith)
decision-one Deny None e = absurd (omega arith)
decision-one Permit Deny e = absurd (omega arith)
decision-one Permit Permit e = refl
decision-one Permit None e = absurd (omega arith)
decision-one None Deny e = absurd (omega arith)
decision-one None Permit e = absurd (omega arith)
decision-one None None e = refl

pub reply-one : (a b : Result ℕ Refusal) → FitsReply a → FitsReply b → packed_reply a ≡ packed_reply b → a ≡ b
reply-one (Ok n) (Ok m) s t e = ap Ok e
reply-one (Ok n) (Err g) s t e = absurd (omega arith)
reply-one (Err f) (Ok m) s t e = absurd (omega arith)
reply-one (Err f) (Err g) s t e = ap Err (refusal-one f g s t e)

pub answer-one : (a b : Result Decision Refusal) → FitsAnswer a → FitsAnswer b → packed_answer a ≡ packed_answer b → a ≡ b
answer-one (Ok v) (Ok w) s t e = ap Ok (decision-one v w e)
answer-one (Ok v) (Err g) s t e = absurd (omega (arith, decision-small v))
answer-one (Err f) (Ok w) s t e = absurd (omega (arith, decision-small w))
answer-one (Err f) (Err g) s t e = ap Err (refusal-one f g s t e)

report_one : {a b : ℕ} {v w : Verdict} → a ≡ b → v ≡ w → ◌≡◌ {A = Report} (record { count = a; verdict = v }) (record { count = b; verdict = w })
report_one p q = cc

high_one : (a b i j : ℕ) → i < 65536 → j < 65536 → i + a * 262144 ≡ j + b * 262144 → a ≡ b
high_one a b i j s t e =
    let p : (i + a * 262144) / 262144 ≡ a = omega arith in
    let q : (j + b * 262144) / 262144 ≡ b = omega arith in
    sym p ∙ ap (λ (n : ℕ). n / 262144) e ∙ q

-- what is left of a report's number without its count is its verdict's
verdict_one : (v w : Verdict) → FitsVerdict v → FitsVerdict w → packed_verdict v ≡ packed_verdict w → v ≡ w
verdict_one verdict.Least verdict.Least s t e = refl
verdict_one verdict.Least (verdict.Longer m) s t e = absurd (omega arith)
verdict_one verdict.Least (verdict.Wrong j b) s t e = absurd (omega arith)
verdict_one (verdict.Longer n) verdict.Least s t e = absurd (omega arith)
verdict_one (verdict.Longer n) (verdict.Longer m) s t e = ap verdict.Longer (omega (arith, mod-eq_of_lt s, mod-eq_of_lt t))
verdict_one (verdict.Longer n) (verdict.Wrong j b) s t e = absurd (omega arith)
verdict_one (verdict.Wrong i a) verdict.Least s t e = absurd (omega arith)
verdict_one (verdict.Wrong i a) (verdict.Longer m) s t e = absurd (omega arith)
verdict_one (verdict.Wrong i a) (verdict.Wrong j b) s t e =
    let x : i % 65536 ≡ i = mod-eq_of_lt s in
    let y : j % 65536 ≡ j = mod-eq_of_lt t in
    let q : a ≡ b = decision-one a b (high_one (decision_number a) (decision_number b) i j s t (omega arith)) in
    let p : i ≡ j = omega (arith, ap decision_number q) in
    cc

-- and it is a multiple of 2^16
verdict_even : (v : Verdict) → packed_verdict v % 65536 ≡ 0
verdict_even verdict.Least = refl
verdict_even (verdict.Longer n) = omega arith
verdict_even (verdict.Wrong i a) = omega arith

pub judgement_one : (a b : Result Report Refusal) → FitsJudgement a → FitsJudgement b → packed_judgement a ≡ packed_judgement b → a ≡ b
judgement_one (Ok r) (Ok q) s t e =
    let v = packed_verdict r.verdict in
    let w = packed_verdict q.verdict in
    let x = verdict_even r.verdict in
    let y = verdict_even q.verdict in
    ap Ok (report_one (omega arith) (verdict_one r.verdict q.verdict s.1 t.1 (omega arith)))
judgement_one (Ok r) (Err g) s t e = absurd (omega (arith, report_low r))
judgement_one (Err f) (Ok q) s t e = absurd (omega (arith, report_low q))
judgement_one (Err f) (Err g) s t e = ap Err (refusal-one f g s t e)
