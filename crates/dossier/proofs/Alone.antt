-- A record by itself is record 0 of its own bytes, and has the fields that it has where it stands. Assumes nothing.
use Rattle.std.proofs.Common.{◌≡◌, ℕ, ◌<◌, List, get_or, sym, ◌∙◌, arith}
use Rattle.dossier.specs.Limits.{width}
use Rattle.dossier.specs.Elements.{Element, effect_number, mark_number}
use Rattle.dossier.specs.Bytes.{records, byte_of, record_at, depth_at, element_bytes}
use Rattle.dossier.specs.Reading.{fields_at}
use Rattle.dossier.proofs.Laws.{depth-bytes}
use Rattle.dossier.proofs.RoundTrip.{depth-number}
use Rattle.dossier.proofs.Widths.{record_byte, record-long}

pub record_fields : (d : List ℕ) (i : ℕ) → i < records d → fields_at (record_at d i) 0 ≡ fields_at d i
record_fields d i there =
    let byte : (k : ℕ) → k < width → get_or (record_at d i) k 0 ≡ byte_of d i k = record_byte width d i in
    let depth : depth_at (record_at d i) 0 ≡ depth_at d i =
    depth-bytes (record_at d i) 0 (omega (arith, record-long width d i (omega arith) there))
    ∙ rw (byte 0 (omega arith), byte 3 (omega arith)) (sym (depth-bytes d i there)) in
    rw (depth, byte 1 (omega arith), byte 2 (omega arith))

-- the record that an element is written as
pub element_fields : (e : Element)
    → fields_at (element_bytes e) 0 ≡ record { depth = e.depth; decision = effect_number e.decision; mark = mark_number e.mark }
unfolding depth_at
element_fields e = rw (depth-number e.depth)
