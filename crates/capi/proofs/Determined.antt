-- The promises of the C functions determine the number and every lent area; where a promise is an equation, there is nothing to show. Assumes nothing.
use Rattle.std.proofs.Common.{◌≡◌, ℕ, List, sym, ap, ◌∙◌}
use Rattle.marks.specs.Stepping.{Steps}
use Rattle.marks.specs.declared.Walk.{Walk}
use Rattle.marks.specs.declared.Stepped.{Stepped}
use Rattle.marks.proofs.Determined.{steps_one}
use Rattle.listing.specs.Back.{Back}
use Rattle.listing.proofs.Unique.{back_one}
use Rattle.least.specs.Folding.{Folded, FoldedFor}
use Rattle.least.specs.Judging.{Judged, JudgedFor}
use Rattle.least.proofs.Determined.{folded_unique, judged_unique, folded_for_unique, judged_for_unique}
use Rattle.view.specs.View.{Views}
use Rattle.view.proofs.Unique.{views_unique}
use Rattle.capi.specs.Packed.{packed_reply, packed_answer, packed_judgement, Packs}

number-one : {A : Type 0} (pack : A → ℕ) {P Q : A → Type 0} {n m : ℕ} (p : Packs pack P n) (q : Packs pack Q m) → p.reply ≡ q.reply → n ≡ m
number-one pack p q e = p.packed ∙ ap pack e ∙ sym q.packed

pub read_back_one : (d rs : List ℕ) (n m : ℕ) (new old : List ℕ) → Packs packed_reply (λ reply. Back d rs reply new) n
    → Packs packed_reply (λ reply. Back d rs reply old) m → (n ≡ m) × (new ≡ old)
read_back_one d rs n m new old p q =
    let o = back_one d rs p.reply q.reply new old p.allowed q.allowed in
    (number-one packed_reply p q o.0, o.1)

pub fold-one : (d : List ℕ) (n m : ℕ) (new old : List ℕ) → Packs packed_reply (λ reply. Folded d reply new) n
    → Packs packed_reply (λ reply. Folded d reply old) m → (n ≡ m) × (new ≡ old)
fold-one d n m new old p q =
    let o = folded_unique d p.reply q.reply new old p.allowed q.allowed in
    (number-one packed_reply p q o.0, o.1)

pub fold_for_one : (c : ℕ) (d : List ℕ) (n m : ℕ) (new old : List ℕ) → Packs packed_reply (λ reply. FoldedFor c d reply new) n
    → Packs packed_reply (λ reply. FoldedFor c d reply old) m → (n ≡ m) × (new ≡ old)
fold_for_one c d n m new old p q =
    let o = folded_for_unique c d p.reply q.reply new old p.allowed q.allowed in
    (number-one packed_reply p q o.0, o.1)

pub view-one : (d area : List ℕ) (n m : ℕ) (new old : List ℕ) → Packs packed_reply (λ reply. Views d area reply new) n
    → Packs packed_reply (λ reply. Views d area reply old) m → (n ≡ m) × (new ≡ old)
view-one d area n m new old p q =
    let o = views_unique d area p.reply q.reply new old p.allowed q.allowed in
    (number-one packed_reply p q o.0, o.1)

pub judge-one : (d : List ℕ) (n m : ℕ) → Packs packed_judgement (λ judgement. Judged d judgement) n
    → Packs packed_judgement (λ judgement. Judged d judgement) m → n ≡ m
judge-one d n m p q = number-one packed_judgement p q (judged_unique d p.reply q.reply p.allowed q.allowed)

pub judge_for_one : (c : ℕ) (d : List ℕ) (n m : ℕ) → Packs packed_judgement (λ judgement. JudgedFor c d judgement) n
    → Packs packed_judgement (λ judgement. JudgedFor c d judgement) m → n ≡ m
judge_for_one c d n m p q = number-one packed_judgement p q (judged_for_unique c d p.reply q.reply p.allowed q.allowed)

pub walk_step_one : (w : Walk) (r : List ℕ) (n m : ℕ) (new old : Walk)
    → Packs packed_answer (λ answer. Steps w r (record { walk = new; answer = answer })) n
    → Packs packed_answer (λ answer. Steps w r (record { walk = old; answer = answer })) m → (n ≡ m) × (new ≡ old)
walk_step_one w r n m new old p q =
    let o = steps_one w r _ _ p.allowed q.allowed in
    (number-one packed_answer p q (ap (λ (s : Stepped). s.answer) o), ap (λ (s : Stepped). s.walk) o)
