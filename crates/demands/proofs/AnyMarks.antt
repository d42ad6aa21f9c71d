-- The rules that any marks of a sound dossier list: the lister writes them, first applicable decides over them as the marks say, and reading back yields the marks. Assumes nothing.
use Rattle.std.proofs.Common.{◌≡◌, ℕ, ◌+◌, ◌*◌, ◌<◌, ◌≤◌, ◌↔◌, List, [], length, sym, refl, ◌∙◌, append-nil, arith, le-ltb, Result, Ok}
use Rattle.dossier.specs.Limits.{width}
use Rattle.dossier.specs.Elements.{marks_of}
use Rattle.dossier.specs.declared.elements.Mark.{Mark}
use Rattle.dossier.specs.declared.elements.Mark.TheVariants.{Minus as m-, Plus as m+, PlusMinus as m±}
use Rattle.dossier.specs.Bytes.{records, key_at, elements_of, with_marks}
use Rattle.dossier.specs.Replies.{refusal, room_by, fronted}
use Rattle.dossier.specs.Reading.{Sound}
use Rattle.dossier.proofs.Sounds.{sound-counted}
use Rattle.dossier.proofs.Marked.{marked-length, marked_other, marked-elements, marked-marks, marked-sound}
use Rattle.rules.specs.Rules.{target_at, rules_of, list_bytes}
use Rattle.rules.specs.ReadingRules.{SoundRules}
use Rattle.rules.specs.Deciding.{both_rules, decide_of}
use Rattle.rules.proofs.RoundTrip.{rules-back}
use Rattle.rules.proofs.ListSounds.{count-sound}
use Rattle.rules.proofs.Answers.{given-answer}
use Rattle.listing.specs.Listing.{number_of}
use Rattle.listing.specs.Area.{listed_of, list_reply, list_area}
use Rattle.listing.specs.Back.{Gives, Told, marked, Back}
use Rattle.listing.proofs.Counts.{length_numbers}
use Rattle.listing.proofs.Costs.{elements-length}
use Rattle.listing.proofs.ListedSound.{listed-sound}
use Rattle.listing.proofs.Replies.{back-told}
use Rattle.listing.proofs.ThereAndBack.{list_as}
use Rattle.listing.proofs.Unique.{back_one}
use Rattle.listing.proofs.Decides.{first_at_lem}
use Rattle.demands.specs.Demand2.{Marking, rules_from, marked_at}
use Rattle.demands.proofs.Requests.{told-refused}
use Rattle.dossier.specs.declared.Refusal.{Refusal}

module _ (d : List ℕ) (m : Marking d) where
  abbrev new : List ℕ
  new = with_marks d 0 m.marks

  -- the marks that elements hold are nothing to the list of a marking
  new-lists : listed_of new ≡ rules_from d m
  unfolding listed_of
  new-lists = rw (marked-marks d m.marks m.each) (list_as (elements_of new) (elements_of d) m.marks (marked-elements d m.marks))

  -- ---- the lister

  pub listed : (area : List ℕ) → Sound d → length (rules_from d m) * width ≤ length area
      → (list_reply new area ≡ Ok (length (rules_from d m))) × (list_area new area ≡ fronted area (list_bytes (rules_from d m)))
  unfolding list_reply list_area room_by
  listed area s l =
      let read = sound-counted new (marked-sound d m.marks m.each s) in
      let room = le-ltb (length area) (length (rules_from d m) * width) l in
      (rw (read, new-lists, room), rw (read, new-lists, room))

  -- ---- how many they are

  pub counted : length (rules_from d m) ≡ number_of m- m.marks + number_of m+ m.marks + 2 * number_of m± m.marks
  counted = length_numbers (elements_of d) m.marks (m.each ∙ sym (elements-length d))

  -- ---- they are a sound list over the dossier

  same_key : (t : ℕ) → key_at new t ≡ key_at d t
  same_key t =
      let other = marked_other d 0 m.marks in
      rw (other (t * width + 4) (omega arith), other (t * width + 5) (omega arith), other (t * width + 6) (omega arith), other (t * width + 7) (omega arith))

  rules-sound : Sound d → SoundRules d (list_bytes (rules_from d m))
  rules-sound s =
      let r : SoundRules new (list_bytes (rules_from d m)) = rw new-lists at (listed-sound new (marked-sound d m.marks m.each s)) in
      let long = marked-length d 0 m.marks in
      record {
        whole = r.whole;
        few = r.few;
        targets = λ i l. omega (arith, r.targets i l);
        effects = r.effects;
        reaches = r.reaches;
        keys = λ i l. sym (same_key (target_at (list_bytes (rules_from d m)) i)) ∙ r.keys i l;
      }

  -- ---- deciding over them

  pub decided_as_marked : (i : ℕ) → Sound d → i < records d → decide_of d (list_bytes (rules_from d m)) [] 0 i ≡ Ok (marked_at d m i)
  unfolding rules_of
  decided_as_marked i s l =
      let n = elements-length d in
      let rules : both_rules (list_bytes (rules_from d m)) [] ≡ rules_from d m = append-nil (rules_of (list_bytes (rules_from d m))) ∙ rules-back (rules_from d m) in
      (given-answer d (list_bytes (rules_from d m)) [] 0 i (marked_at d m i)).1 (
        record { elements = s; first = rules-sound s; second = no-rules; combining = omega arith; element = l },
        rw rules (sym (first_at_lem (elements_of d) m.marks s.order (m.each ∙ sym n) i (omega arith))),
      )
    where
      no-rules : SoundRules d []
      no-rules = record {
        whole = refl;
        few = omega arith;
        targets = λ i l. absurd (omega arith);
        effects = λ i l. absurd (omega arith);
        reaches = λ i l. absurd (omega arith);
        keys = λ i l. absurd (omega arith);
      }

  -- ---- reading them back

  pub read_back : (reply : Result ℕ Refusal) (new' : List ℕ) → Sound d → Back d (list_bytes (rules_from d m)) reply new'
      → (reply ≡ Ok (records d)) × (new' ≡ new) × (marks_of (elements_of new') ≡ m.marks)
  read_back reply new' s b =
      let rs : List ℕ = list_bytes (rules_from d m) in
      let g : Gives d m.marks (rules_of rs) = record { each = m.each; lists = sym (rules-back (rules_from d m)) } in
      let c = (count-sound d rs 1 (records rs)).1 (rules-sound s, refl) in
      let u = back_one d rs reply (Ok (records d)) new' new b (back-told d rs _ _ _ _ (sound-counted d s) c (marked m.marks g)) in
      (u.0, u.1, rw u.1 (marked-marks d m.marks m.each))

-- ---- a list that no marks give

pub no_marks_refused : (d rs : List ℕ) (reply : Result ℕ Refusal) (new : List ℕ) → Sound d → SoundRules d rs → Back d rs reply new
    → (reply ≡ refusal 9 1 0) ↔ ((ms : List Mark) → Gives d ms (rules_of rs) → ⊥)
no_marks_refused d rs reply new s t b =
    let told : Told d rs reply new = rw (sound-counted d s, (count-sound d rs 1 (records rs)).1 (t, refl)) at b in
    let r = told-refused d rs told (record { number = 9; list = 1; position = 0 }) in
    (λ e. (r.0 e).1, λ n. r.1 (refl, n))
