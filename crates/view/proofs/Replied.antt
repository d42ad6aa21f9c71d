-- What the view replies keeps its promise. Assumes nothing.
use Rattle.std.proofs.Common.{◌≡◌, ℕ, ◌*◌, ◌≤◌, false, leb, List, length, refl, ◌∙◌, arith, le-ltb, lt-ltb, leb-false, Result, Ok}
use lib.Seq.{sets}
use Rattle.dossier.specs.Limits.{width}
use Rattle.dossier.specs.Replies.{refusal, room_by}
use Rattle.dossier.specs.Reading.{read_of}
use Rattle.dossier.specs.declared.Refusal.{Refusal}
use Rattle.dossier.proofs.Sounds.{counted-sound}
use Rattle.view.specs.View.{Views}
use Rattle.view.specs.Inner.{shown_of, bytes_of}
use Rattle.dossier.proofs.Stores.{sets-front}
use Rattle.view.proofs.Passes.{bytes-long}
use Rattle.view.proofs.Belongs.{shown-view}

module _ (d area : List ℕ) {k : ℕ} (read : read_of d ≡ Ok k) where
  pub short_views : leb (length (shown_of d) * width) (length area) ≡ false → {reply : Result ℕ Refusal} → reply ≡ refusal 8 0 0 → Views d area reply area
  unfolding room_by
  short_views l e = rw read (record {
    shown = shown_of d;
    view = shown-view d (counted-sound d k read);
    replied = e ∙ simp (lt-ltb (length area) (length (shown_of d) * width) (leb-false _ _ l));
    written = rw e refl;
  })

  pub copied_views : length (shown_of d) * width ≤ length area → {n : ℕ} → n ≡ length (shown_of d) → {new : List ℕ} → new ≡ sets area 0 (bytes_of (shown_of d)) → Views d area (Ok n) new
  unfolding room_by
  copied_views l {n} m e = rw read (record {
    shown = shown_of d;
    view = shown-view d (counted-sound d k read);
    replied = rw m (simp (le-ltb (length area) (length (shown_of d) * width) l));
    written = e ∙ sets-front area (bytes_of (shown_of d)) (omega (arith, bytes-long d));
  })
