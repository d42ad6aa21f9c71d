-- `printing::write_refusal` meets its contract: the parts of the line follow each other. Assumes nothing.
use Rattle.std.proofs.Common.{arith}
use Rattle.programs.proofs.Putting.{put_next, put_last, left_all}
use Rattle.programs.proofs.Words.{refusal_parts, refusal-room}
use Rattle.programs.proofs.printing.write_refusal.Goals as goal

pub returns : goal.returns
returns c =
    let parts = refusal_parts c.args.refusal in
    let number = rw c.from.ensures at c.put_number-numbered.ensures in
    let list = rw c.from-2.ensures at c.put_number-listed.ensures in
    let start = rw parts at (left_all (refusal-room c.args.line.now c.args.refusal (omega arith) (omega arith) (omega arith) (omega arith))) in
    let named = put_next _ _ c.put_word-named.ensures.place c.put_word-named.ensures.written start in
    let numbered = put_next _ _ number.place number.written named in
    let spaced = put_next _ _ c.put_word-spaced.ensures.place c.put_word-spaced.ensures.written numbered in
    let listed = put_next _ _ list.place list.written spaced in
    let spaced_again = put_next _ _ c.put_word-spaced-2.ensures.place c.put_word-spaced-2.ensures.written listed in
    let placed = put_next _ _ c.put_number-placed.ensures.place c.put_number-placed.ensures.written spaced_again in
    rw parts (put_last _ c.put_word.ensures.place c.put_word.ensures.written placed)
