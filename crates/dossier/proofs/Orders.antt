-- A reply that is a refusal exactly as an order of conditions says, and what is promised after the refusals of a request: laws to build such replies up. Assumes nothing.
use Rattle.std.proofs.Common.{◌≡◌, ℕ, ◌*◌, Bool, true, false, cond, ltb, ◌↔◌, List, length, sym, refl, ap, ◌∙◌, subst, arith, ltb-false, ltb-true, Result, Ok, Err}
use Rattle.dossier.specs.Replies.{refusal, and_then, After, room_by}
use Rattle.dossier.specs.declared.Refusal.{Refusal}
use Rattle.dossier.specs.Refusing.{Refusals, row, ◌before◌, first, later, too_short_by}

-- nothing is refused so
abbrev pub Never : Refusals → Type 0
Never P = (f : Refusal) → P f → ⊥

-- ---- of any reply

module _ {A : Type 0} where
  -- the reply is a refusal exactly as P says
  abbrev pub Refuses : Result A Refusal → Refusals → Type 0
  Refuses x P = (f : Refusal) → (x ≡ Err f) ↔ P f

  pub same-refused : (f g : Refusal) → ◌≡◌ {A = Result A Refusal} (Err f) (Err g) → f ≡ g
  same-refused f g e = cc

  -- what is refused first is refused
  pub here : {P Q : Refusals} {g : Refusal} → Refuses (Err g) P → Refuses (Err g) (P before Q)
  here {P} {Q} {g} h f = (λ e. first ((h f).0 e), back)
    where
      back : (P before Q) f → ◌≡◌ {A = Result A Refusal} (Err g) (Err f)
      back (first p) = (h f).1 p
      back (later n q) = absurd (n g ((h g).0 refl))

  -- what is not refused first is refused as the others say
  pub on : {P Q : Refusals} {x : Result A Refusal} → Never P → Refuses x Q → Refuses x (P before Q)
  on {P} {Q} {x} n h f = (λ e. later n ((h f).0 e), back)
    where
      back : (P before Q) f → x ≡ Err f
      back (first p) = absurd (n f p)
      back (later m q) = (h f).1 q

  -- a reply that is none
  pub none : {P : Refusals} {x : Result A Refusal} → Never P → ((f : Refusal) → x ≡ Err f → ⊥) → Refuses x P
  none n h f = (λ e. absurd (h f e), λ p. absurd (n f p))

  -- one row
  pub row_here : (number list position : ℕ) (P : Type 0) → P
      → Refuses (Err (record { number = number; list = list; position = position })) (row number list position P)
  row_here number list position P p f = (λ e. (sym (same-refused _ f e), p), λ q. ap Err (sym q.0))

  -- what is given refuses nothing
  pub given_never : {x : A} (f : Refusal) → ◌≡◌ {A = Result A Refusal} (Ok x) (Err f) → ⊥
  given_never f e = let z : ◌≡◌ {A = ℕ} 0 1 = cc in omega arith

  pub counted_never : {P : Refusals} {x : A} → Refuses (Ok x) P → Never P
  counted_never h f p = given_never f ((h f).1 p)

pub row_never : {number list position : ℕ} {P : Type 0} → (P → ⊥) → Never (row number list position P)
row_never n f q = n q.1

-- the first refusal of two replies, in their order
pub then : {P Q : Refusals} (x y : Result ℕ Refusal) → Refuses x P → ((n : ℕ) → x ≡ Ok n → Refuses y Q) → Refuses (and_then x y) (P before Q)
then (Ok n) y p q = on (counted_never p) (q n refl)
then (Err g) y p q = here p

-- 8
pub room-refused : (w n : ℕ) (area : List ℕ) → Refuses (room_by w n area) (too_short_by w n area)
unfolding room_by
room-refused w n area = go (ltb (length area) (n * w)) refl
  where
    go : (t : Bool) → ltb (length area) (n * w) ≡ t → Refuses (cond t (refusal 8 0 0) (Ok n)) (too_short_by w n area)
    go true e = row_here 8 0 0 _ (ltb-true (length area) (n * w) e)
    go false e = none (row_never (λ l. omega (arith, ltb-false (length area) (n * w) e))) given_never

-- ---- two orders, one after the other, are one order

module _ {P Q S : Refusals} where
  to_right : (f : Refusal) → ((P before Q) before S) f → (P before (Q before S)) f
  to_right f (first (first p)) = first p
  to_right f (first (later n q)) = later n (first q)
  to_right f (later n s) =
      let none : (g : Refusal) → P g → ⊥ = λ g p. n g (first p) in
      later none (later (λ g q. n g (later none q)) s)

  to_left : (f : Refusal) → (P before (Q before S)) f → ((P before Q) before S) f
  to_left f (first p) = first (first p)
  to_left f (later n (first q)) = first (later n q)
  to_left f (later n (later m s)) = later neither s
    where
      neither : (g : Refusal) → (P before Q) g → ⊥
      neither g (first p) = n g p
      neither g (later k q) = m g q

  pub regrouped : {A : Type 0} {x : Result A Refusal} → Refuses x ((P before Q) before S) → Refuses x (P before (Q before S))
  regrouped h f = (λ e. to_right f ((h f).0 e), λ q. (h f).1 (to_left f q))

-- ---- what is promised after a request's refusals

module _ {A B : Type 0} (was : B) (P : Result A Refusal → B → Type 0) where
  -- nothing is refused, and P holds; or a refusal is handed on
  pub after-counted : (x : Result ℕ Refusal) {n : ℕ} → x ≡ Ok n → (r : Result A Refusal) (b : B) → P r b → After x was P r b
  after-counted x e r b h = rw e h

  pub after-handed : (x : Result ℕ Refusal) (f : Refusal) → x ≡ Err f → After x was P (Err f) was
  after-handed x f e = rw e (refl, refl)

  -- where P allows one reply with one content, so does what is promised
  pub after_one : ((r q : Result A Refusal) (a b : B) → P r a → P q b → (r ≡ q) × (a ≡ b)) → (x : Result ℕ Refusal) (r q : Result A Refusal) (a b : B)
      → After x was P r a → After x was P q b → (r ≡ q) × (a ≡ b)
  after_one one (Ok n) r q a b h g = one r q a b h g
  after_one one (Err f) r q a b h g = (h.0 ∙ sym g.0, h.1 ∙ sym g.1)

  -- where P leaves what was lent as it was under a refusal, so does what is promised
  pub after-unchanged : ((r : Result A Refusal) (b : B) (f : Refusal) → P r b → r ≡ Err f → b ≡ was) → (x : Result ℕ Refusal) (r : Result A Refusal) (b : B) (f : Refusal)
      → After x was P r b → r ≡ Err f → b ≡ was
  after-unchanged same (Ok n) r b f h e = same r b f h e
  after-unchanged same (Err g) r b f h e = h.1

  -- the refusal that is handed on
  handed : {Q : Refusals} {g : Refusal} → Refuses {A = ℕ} (Err g) Q → Refuses {A = A} (Err g) Q
  handed {Q} {g} h f = (λ e. (h f).0 (ap Err (same-refused g f e)), λ q. ap Err (same-refused g f ((h f).1 q)))

  -- those of what is asked come before those of P
  pub after-refuses : {Q S : Refusals} → ((r : Result A Refusal) (b : B) → P r b → Refuses r S) → (x : Result ℕ Refusal) → Refuses x Q → (r : Result A Refusal) (b : B)
      → After x was P r b → Refuses r (Q before S)
  after-refuses s (Ok n) q r b h = on (counted_never q) (s r b h)
  after-refuses s (Err g) q r b h = rw h.0 (here (handed q))

  -- and where P never refuses they are all
  pub after-only : {Q : Refusals} → ((r : Result A Refusal) (b : B) (f : Refusal) → P r b → r ≡ Err f → ⊥) → (x : Result ℕ Refusal) → Refuses x Q → (r : Result A Refusal) (b : B)
      → After x was P r b → Refuses r Q
  after-only never (Ok n) q r b h = none (counted_never q) (λ f e. never r b f h e)
  after-only never (Err g) q r b h = rw h.0 (handed q)

-- what follows from P is promised with it
pub after_as : {A B : Type 0} (was : B) (P Q : Result A Refusal → B → Type 0) (x : Result ℕ Refusal)
    → ((n : ℕ) → x ≡ Ok n → (r : Result A Refusal) (b : B) → P r b → Q r b) → (r : Result A Refusal) (b : B) → After x was P r b → After x was Q r b
after_as was P Q x so r b h = go x refl h
  where
    go : (y : Result ℕ Refusal) → x ≡ y → After y was P r b → After y was Q r b
    go (Ok n) e h = so n e r b h
    go (Err f) e h = h

-- what holds of the refusals and of what P allows holds of the reply
pub after-all : {A B : Type 0} (was : B) (P : Result A Refusal → B → Type 0) (F : Result A Refusal → Type 0) (x : Result ℕ Refusal)
    → ((f : Refusal) → x ≡ Err f → F (Err f)) → ((n : ℕ) → x ≡ Ok n → (r : Result A Refusal) (b : B) → P r b → F r)
    → (r : Result A Refusal) (b : B) → After x was P r b → F r
after-all was P F x refuses so r b h = go x refl h
  where
    go : (y : Result ℕ Refusal) → x ≡ y → After y was P r b → F r
    go (Ok n) e h = so n e r b h
    go (Err f) e h = subst F (sym h.0) (refuses f e)
