-- The view's reply, and what the area then holds, are determined. Assumes nothing.
use Rattle.std.proofs.Common.{◌≡◌, ℕ, List, length, sym, ap, ◌∙◌, Result}
use Rattle.dossier.specs.Replies.{room_for}
use Rattle.dossier.specs.Reading.{read_of}
use Rattle.dossier.proofs.Orders.{after_one}
use Rattle.view.specs.View.{Viewed, Views}
use Rattle.view.proofs.Keeping.{keeps_unique}
use Rattle.dossier.specs.declared.Refusal.{Refusal}

viewed_one : (d area : List ℕ) (r r' : Result ℕ Refusal) (new new' : List ℕ) → Viewed d area r new → Viewed d area r' new' → (r ≡ r') × (new ≡ new')
viewed_one d area r r' new new' v w =
    let e = keeps_unique v.view w.view in
    let q : r ≡ r' = v.replied ∙ ap (λ rs. room_for (length rs) area) e ∙ sym w.replied in
    (q, v.written ∙ rw (q, e) (sym w.written))

-- any two replies and areas that the promise allows are equal
pub views_unique : (d area : List ℕ) (r r' : Result ℕ Refusal) (new new' : List ℕ) → Views d area r new → Views d area r' new' → (r ≡ r') × (new ≡ new')
views_unique d area = after_one area (Viewed d area) (viewed_one d area) (read_of d)
