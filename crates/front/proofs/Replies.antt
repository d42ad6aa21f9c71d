-- What the folder and the lister leave is what is printed: the lister has room for all rules of a folded dossier. Assumes nothing.
use Rattle.std.proofs.Common.{◌≡◌, ℕ, ◌*◌, ◌<◌, ◌≤◌, List, length, take, drop, sym, refl, ap, ◌∙◌, arith, take_at, le-ltb, Result, Ok, Err}
use Rattle.dossier.specs.Limits.{width, most_elements}
use Rattle.dossier.specs.Bytes.{records}
use Rattle.dossier.specs.Replies.{room_by, fronted}
use Rattle.dossier.specs.Reading.{read_of}
use Rattle.dossier.proofs.Sounds.{counted-sound, sound-counted}
use Rattle.rules.specs.Rules.{target_at, rules_of, list_bytes}
use Rattle.rules.proofs.RoundTrip.{list_length, rules-back}
use Rattle.listing.specs.Area.{listed_of, list_reply, list_area}
use Rattle.listing.proofs.ListedSound.{listed-sound}
use Rattle.marks.specs.Marks.{first}
use Rattle.marks.specs.Walking.{walked}
use Rattle.least.specs.Folding.{FoldedAfter, Folded}
use Rattle.least.proofs.OwnMarks.{own-list}
use Rattle.programs.specs.Area.{Room, Puts}
use Rattle.programs.proofs.Putting.{puts_within, puts_front}
use Rattle.front.specs.Printing.{rules_text, text_after}
use Rattle.front.specs.Inner.{most_text, Short, Answered}
use Rattle.front.proofs.RuleLines.{rules-room}
use Rattle.dossier.specs.declared.Refusal.{Refusal}

-- ---- the lister

module _ (d area : List ℕ) (short : Short d) (wide : most_elements * width ≤ length area) where
  -- it never refuses
  pub list_counts : list_reply d area ≡ Ok (length (listed_of d))
  unfolding list_reply room_by
  list_counts =
      rw (sound-counted d short.sound)
      (simp (le-ltb (length area) (length (listed_of d) * width) (omega (arith, short.few, wide))))

  list_area_lem : list_area d area ≡ fronted area (list_bytes (listed_of d))
  unfolding list_area
  list_area_lem = rw list_counts

  -- the rules that it writes
  pub list_written : rules_of (take (length (listed_of d) * width) (list_area d area)) ≡ listed_of d
  list_written =
      ap rules_of
      (ap (take (length (listed_of d) * width)) list_area_lem
      ∙ take_at (list_bytes (listed_of d)) (drop (length (list_bytes (listed_of d))) area) (length (listed_of d) * width) (omega (arith, list_length (listed_of d))))
      ∙ rules-back (listed_of d)

-- there is room for their lines
pub list_room : (d out : List ℕ) → Short d → most_text ≤ length out → Room out 0 (rules_text (listed_of d))
list_room d out short room =
    let small : (k : ℕ) → k < records (list_bytes (listed_of d)) → target_at (list_bytes (listed_of d)) k < 10000 =
    λ k l. omega (arith, (listed-sound d short.sound).targets k l, short.sound.few) in
    rw (rules-back (listed_of d)) at (rules-room out (list_bytes (listed_of d)) small (omega (arith, list_length (listed_of d), short.few)) room)

-- for the checker's search
pub ruleset lister = (list_counts, list_written, list_room)

-- ---- the folder

module _ (d new : List ℕ) (reply : Result ℕ Refusal) (folded : Folded d reply new) where
  -- what it leaves where it counts
  pub folded_short : {n : ℕ} → reply ≡ Ok n → Short new
  folded_short {n} e = go (read_of d) refl folded
    where
      go : (q : Result ℕ Refusal) → read_of d ≡ q → FoldedAfter (walked first) q d reply new → Short new
      go (Ok m) p f =
          let sound = counted-sound d m p in
          let listed = own-list d reply new sound folded in
          record { sound = listed.sound; few = omega (arith, listed.most, sound.few) }
      go (Err g) p f = let y : ⊥ = cc f.0 in absurd y

  -- the text of its reply is printed
  pub answered : {was out : List ℕ} {to : ℕ} (q : Result ℕ Refusal) → reply ≡ q → Puts was 0 (text_after q new) out to → Answered d out to
  answered q e puts = record {
    within = puts_within puts;
    printed = record { reply = reply; new = new; folded = folded; says = puts_front puts ∙ sym (ap (λ (x : Result ℕ Refusal). text_after x new) e) };
  }
