-- A record's bytes, stored into an area that has room for them. Assumes nothing.
use Rattle.std.proofs.Common.{◌≡◌, ℕ, ◌+◌, ◌*◌, ◌<◌, ◌≤◌, List, [], ◌∷◌, length, get_or, sym, ap, ◌∙◌, add-zero, arith}
use lib.Seq.{sets}
use Rattle.dossier.specs.Limits.{width}
use Rattle.dossier.specs.Bytes.{records, byte_of, record_at}
use Rattle.dossier.specs.Replies.{area_after}
use Rattle.dossier.proofs.Stores.{area-fits}
use Rattle.dossier.proofs.Widths.{record-bytes}

pub stored : (d : List ℕ) (i : ℕ) (l : List ℕ) (at : ℕ) {new : List ℕ}
    → new ≡ area_after l at (get_or d (i * width) 0 ∷ byte_of d i 1 ∷ byte_of d i 2 ∷ byte_of d i 3 ∷ byte_of d i 4 ∷ byte_of d i 5 ∷ byte_of d i 6 ∷ byte_of d i 7 ∷ [])
    → i < records d → at + width ≤ length l → new ≡ sets l at (record_at d i)
stored d i l at e there room = e ∙ area-fits l at _ room ∙ rw (add-zero (i * width)) at (ap (sets l at) (sym (record-bytes width d i (omega arith) there)))
