-- `printing::put_refusal` meets its contract: what stands in the line is put. Assumes nothing.
use Rattle.std.proofs.Common.{sym, arith, length-take-le}
use Rattle.programs.proofs.Putting.{puts_within, puts_front}
use Rattle.programs.proofs.printing.put_refusal.Goals as goal

pub slice_bounds-put_word-end : goal.slice_bounds-put_word-end
slice_bounds-put_word-end c = sym (length-take-le _ _ (puts_within c.write_refusal-n.ensures))

pub returns : goal.returns
returns c =
    let puts = c.write_refusal-n.ensures in
    let put = c.put_word.ensures in
    let text = puts_front puts in record {
      place = rw (← text) put.place;
      written = rw (← text) put.written;
      within = omega (arith, puts.room.enough);
    }
