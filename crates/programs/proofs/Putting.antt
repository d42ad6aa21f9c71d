-- Texts put into an area one after the other: what is there in the end, and that there is room for each. Assumes nothing.
use Rattle.std.proofs.Common.{append-nil, append_assoc, ◌≡◌, ℕ, ◌+◌, ◌≤◌, List, [], ◌++◌, length, take, sym, refl, ap, ◌∙◌, ap₂, arith, length-append, take_at, le-leb}
use Rattle.std.proofs.lemmas.List.Edits.{paste_all}
use Rattle.std.proofs.lemmas.Slice.{put_mid-paste}
use borrow.Rule.Slice.PartMut.{put_mid}
use lib.Seq.{sets, sets-eq, length-sets}
use Rattle.dossier.specs.Replies.{area_after}
use Rattle.dossier.proofs.Stores.{sets_more, area-fits}
use Rattle.programs.specs.Area.{place_after, Room, Puts}

-- what a copy to a part of an area leaves
pub put_mid_sets : (area text : List ℕ) (at n : ℕ) → n ≡ length text → at + n ≤ length area → put_mid at n area text ≡ sets area at text
put_mid_sets area text at n e fits =
    put_mid-paste at n area text text n refl refl e ∙ paste_all area at text n e ∙ sym (sets-eq text area at (omega arith) ∙ simp (sym e, append_assoc))

-- ---- one text after the other

-- of a whole text that is put from `at` on, `rest` is still to be put at `to`
pub record Left (was : List ℕ) (at : ℕ) (whole out : List ℕ) (to : ℕ) (rest : List ℕ) : Type 0 where
  pub room : Room was at whole
  pub area : sets out to rest ≡ sets was at whole
  pub place : to + length rest ≡ at + length whole
  pub long : length out ≡ length was

pub left_all : {was : List ℕ} {at : ℕ} {whole : List ℕ} → Room was at whole → Left was at whole was at whole
left_all room = record { room = room; area = refl; place = refl; long = refl }

-- nothing is left
pub left-none : {was : List ℕ} {at : ℕ} {whole out : List ℕ} {to : ℕ} → Left was at whole out to [] → Puts was at whole out to
left-none left = record { room = left.room; area = left.area; place = omega (arith, left.place) }

-- where there is room, the text is put
pub puts_there : {was : List ℕ} {at : ℕ} {text out : List ℕ} {to : ℕ} → Room was at text → to ≡ place_after was at text → out ≡ area_after was at text
    → Puts was at text out to
unfolding place_after
puts_there {was} {at} {text} room place area = record {
  room = room;
  area = area ∙ area-fits was at text room.enough;
  place = simp (le-leb (at + length text) (length was) room.enough) at place;
}

module _ {was : List ℕ} {at : ℕ} {whole out : List ℕ} {to : ℕ} where
  -- there is room for what comes next
  pub left-room : {a : List ℕ} (b : List ℕ) → Left was at whole out to (a ++ b) → Room out to a
  left-room {a} b left = record { enough = omega (arith, left.place, left.long, left.room.enough, length-append a b) }

  -- what comes next is put
  pub left-more : {a b new : List ℕ} {next : ℕ} → Left was at whole out to (a ++ b) → Puts out to a new next → Left was at whole new next b
  left-more {a} {b} {new} {next} left puts = record {
    room = left.room;
    area =
        ap₂ {C = List ℕ} (λ x y. sets x y b) puts.area puts.place
        ∙ sets_more out to a b ∙ left.area;
    place = omega (arith, left.place, puts.place, length-append a b);
    long = ap {B = ℕ} (λ x. length x) puts.area ∙ length-sets out to a ∙ left.long;
  }

  -- what comes next is put by a function that finds out by itself whether there is room
  pub put_next : (a b : List ℕ) {new : List ℕ} {next : ℕ} → next ≡ place_after out to a → new ≡ area_after out to a
      → Left was at whole out to (a ++ b) → Left was at whole new next b
  put_next a b place area left = left-more left (puts_there (left-room b left) place area)

  -- and what comes last
  pub put_last : (a : List ℕ) {new : List ℕ} {next : ℕ} → next ≡ place_after out to a → new ≡ area_after out to a
      → Left was at whole out to a → Puts was at whole new next
  put_last a place area left = left-none (put_next a [] place area (rw append-nil left))

-- ---- a text at the front

-- it stands there
pub puts_within : {was text out : List ℕ} {to : ℕ} → Puts was 0 text out to → to ≤ length out
puts_within {was} {text} puts =
    omega (arith, puts.place, puts.room.enough, ap {B = ℕ} (λ x. length x) puts.area ∙ length-sets was 0 text)

pub puts_front : {was text out : List ℕ} {to : ℕ} → Puts was 0 text out to → take to out ≡ text
puts_front {was} {text} {out} {to} puts =
    ap₂ {C = List ℕ} (λ x y. take x y) puts.place (puts.area ∙ sets-eq text was 0 puts.room.enough)
    ∙ take_at text _ (0 + length text) (omega arith)
