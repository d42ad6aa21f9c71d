-- `listing::list` meets its contract. Assumes nothing.
use Rattle.std.proofs.Common.{sym, ◌∙◌, arith}
use Rattle.std.proofs.lemmas.Result.{err_from_is_err_and}
use Rattle.dossier.proofs.Sounds.{counted-sound, sound-counted}
use Rattle.listing.proofs.Costs.{listed-most}
use Rattle.listing.proofs.Replies.{list-refused, list-short, list-room, list-listed}
use Rattle.listing.proofs.list.Goals as goal

pub returns-in_err-read : goal.returns-in_err-read
returns-in_err-read c =
    let a = c.args in
    let p = err_from_is_err_and c.from_residual.result c.from_residual.ensures.1 in
    let r = list-refused a.d.now a.out.now _ (sym c.read.ensures ∙ c.in_err-read.was) in
    rw (p.1, p.2) (record { replied = r.0; written = r.1 })

pub overflow_mul-n : goal.overflow_mul-n
overflow_mul-n c =
    let d = c.args.d.now in
    let sound = counted-sound d _ (sym c.read.ensures ∙ c.in_ok-read.was) in
    omega (arith, c.count-n.ensures, listed-most d, sound.few)

pub returns-then-out-n : goal.returns-then-out-n
returns-then-out-n c =
    let a = c.args in
    let r = list-short a.d.now a.out.now _ _ (sym c.read.ensures ∙ c.in_ok-read.was) c.count-n.ensures c.if-out-n.true in record {
      replied = c.refused.ensures ∙ r.0;
      written = r.1;
    }

pub invariant_of-sound : goal.invariant_of-sound
invariant_of-sound c = record { sound = sound-counted _ (counted-sound _ _ (sym c.read.ensures ∙ c.in_ok-read.was)) }

pub put_all-requires : goal.put_all-requires
put_all-requires c =
    let a = c.args in
    list-room a.d.now a.out.now _ _ (sym c.read.ensures ∙ c.in_ok-read.was) c.count-n.ensures c.if-out-n.false

pub returns : goal.returns
returns c =
    let a = c.args in
    let r = list-listed a.d.now a.out.now _ _ (sym c.read.ensures ∙ c.in_ok-read.was) c.count-n.ensures c.if-out-n.false _ c.put_all.ensures in record {
      replied = r.0;
      written = r.1;
    }
