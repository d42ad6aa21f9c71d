-- Every view that isn't empty is a sound dossier, and a root that is not permitted shows nothing. Assumes nothing.
use Rattle.std.proofs.Common.{◌≡◌, ℕ, zero, suc, ◌*◌, ◌<◌, ◌≤◌, Bool, true, false, cond, ltb, ◌≢◌, List, [], ◌∷◌, ◌++◌, map, length, get_or, take, sym, refl, ap, ◌∙◌, ⊎_elim, arith, lt-ltb, Result, Ok, Err}
use mathlib.Core.Bool.{and-eq-true_iff}
use lib.ListN.{length-map}
use lib.Seq.{take-append_seam}
use Rattle.dossier.specs.Limits.{width}
use Rattle.dossier.specs.Elements.{Element, marks_of}
use Rattle.dossier.specs.Bytes.{records, record_at, records_of, joined, element_at, elements_of}
use Rattle.dossier.specs.Order.{Follows, Ordered}
use Rattle.dossier.specs.Below.{deeper, covers}
use Rattle.dossier.specs.Replies.{refusal, After, room_for, room_by}
use Rattle.dossier.specs.Reading.{read_of, Sound}
use Rattle.dossier.specs.declared.elements.Decision.TheVariants.{Permit, None}
use Rattle.dossier.proofs.Sounds.{counted-sound, sound-counted}
use Rattle.dossier.proofs.Runs.{run_length}
use Rattle.marks.specs.Marks.{first}
use Rattle.marks.specs.Walking.{walked}
use Rattle.view.specs.View.{IsView, Viewed, Views}
use Rattle.view.specs.Inner.{at_first, shown_of}
use Rattle.view.specs.Again.{Again}
use Rattle.view.proofs.Keeping.{keeps_unique, keeps_none}
use Rattle.view.proofs.Passes.{few, bytes-long}
use Rattle.view.proofs.Belongs.{shown-view}
use Rattle.view.proofs.Places.{shown_places, places-shown, places-there, places-ordered}
use Rattle.view.proofs.Taken.{taken-sound}
use Rattle.dossier.specs.declared.Refusal.{Refusal}

-- ---- a root that is not permitted

all-deeper : (k : ℕ) (es : List Element) (n : ℕ) → Follows k es → n ≤ length es → deeper 0 es n ≡ true
unfolding deeper
all-deeper k es zero f l = refl
all-deeper k [] (suc n) f l = let z : ⊥ = omega arith in absurd z
all-deeper k (e ∷ es) (suc n) f l = (and-eq-true_iff (ltb 0 e.depth) (deeper 0 es n)).1 (lt-ltb 0 e.depth f.0, all-deeper e.depth es n f.2 (omega arith))

-- every element lies below the first, or is it
root-covers : (es : List Element) (i : ℕ) → Ordered es → i < length es → covers es 0 i ≡ true
unfolding covers
root-covers [] i o l = let z : ⊥ = omega arith in absurd z
root-covers (e ∷ es) i o l = rw o.0 (all-deeper 0 es i o.1 (omega arith))

-- ---- the records that the pass shows

joined-map : (f : ℕ → List ℕ) (ps : List ℕ) → joined (λ r. r) (map f ps) ≡ joined f ps
joined-map f [] = refl
joined-map f (p ∷ ps) = ap (◌++◌ (f p)) (joined-map f ps)

shown-sound : (d : List ℕ) → Sound d → 0 < length (shown_of d) → Sound (joined (λ r. r) (shown_of d))
unfolding shown_of
shown-sound d s l = rw (same, joined-map (record_at d) ps) (⊎_elim none ordered (places-ordered d (records d) s (omega arith)))
  where
    ps : List ℕ
    ps = shown_places at_first d 0 (records d)

    same : shown_of d ≡ map (record_at d) ps
    same = sym (places-shown at_first d 0 (records d))

    long : length (shown_of d) ≡ length ps
    long = ap length same ∙ length-map ps (record_at d)

    none : ps ≡ [] → Sound (joined (record_at d) ps)
    none e = let z : ⊥ = omega (arith, long, ap length e) in absurd z

    ordered : Ordered (map (element_at d) ps) → Sound (joined (record_at d) ps)
    ordered o = taken-sound d ps (places-there at_first d 0 (records d) (records d) (omega arith)) s (omega (arith, long)) (omega (arith, long, few d, s.few)) o

-- ---- every view

module _ (d : List ℕ) (s : Sound d) (shown : List (List ℕ)) (v : IsView d shown) where
  same-shown : shown ≡ shown_of d
  same-shown = keeps_unique v (shown-view d s)

  shown-long : length (joined (λ r. r) shown) ≡ length shown * width
  shown-long = rw same-shown (bytes-long d)

  all-hidden : get_or (walked first (elements_of d) (marks_of (elements_of d))) 0 None ≢ Permit → shown ≡ []
  unfolding elements_of records_of
  all-hidden n =
      keeps_none v (λ j l b. n (b 0 (root-covers (elements_of d) j s.order (omega (arith, run_length (record_at d) 0 (records d), run_length (element_at d) 0 (records d))))))

  view_again : Again d shown
  view_again =
      let sound : 0 < length shown → Sound (joined (λ r. r) shown) = λ l. rw same-shown (shown-sound d s (omega (arith, ap length same-shown))) in
      record {
        sound = sound;
        read = λ l. sound-counted (joined (λ r. r) shown) (sound l) ∙ ap Ok (omega (arith, shown-long));
        empty = all-hidden;
      }

-- ---- what was written is read again

-- a count is that of the records to be written
room-count : (m : ℕ) (area : List ℕ) {n : ℕ} → Ok n ≡ room_for m area → n ≡ m
unfolding room_by
room-count m area {n} e = go (ltb (length area) (m * width)) e
  where
    go : (short : Bool) → Ok n ≡ cond short (refusal 8 0 0) (Ok m) → n ≡ m
    go true e = let z : ◌≡◌ {A = ℕ} 0 1 = cc in let y : ⊥ = omega arith in absurd y
    go false e = cc

after_again : (read : Result ℕ Refusal) (d area : List ℕ) (n : ℕ) (new : List ℕ) → read_of d ≡ read → After read area (Viewed d area) (Ok n) new → 0 < n
    → read_of (take (n * width) new) ≡ Ok n
after_again (Ok k) d area n new e v l =
    let s : Sound d = counted-sound d k e in
    let m : n ≡ length v.shown = room-count (length v.shown) area v.replied in
    let long : n * width ≡ length (joined (λ r. r) v.shown) = omega (arith, shown-long d s v.shown v.view) in
    rw (v.written, long, take-append_seam, m) ((view_again d s v.shown v.view).read (omega arith))
after_again (Err f) d area n new e v l = let z : ◌≡◌ {A = ℕ} 0 1 = cc v.0 in let y : ⊥ = omega arith in absurd y

-- the reader reads from the area's front as many elements as the view replied
pub views_again : (d area : List ℕ) (n : ℕ) (new : List ℕ) → Views d area (Ok n) new → 0 < n → read_of (take (n * width) new) ≡ Ok n
views_again d area n new v l = after_again (read_of d) d area n new refl v l
