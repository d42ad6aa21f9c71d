-- `listing::SoundDossier::put` meets its contract. Assumes nothing.
use Rattle.std.proofs.Common.{◌≡◌, ◌*◌, ◌/◌, ◌%◌, sym, ap, ◌∙◌, arith, rules}
use lib.Seq.{sets}
use Rattle.dossier.specs.Limits.{width}
use Rattle.dossier.proofs.Sounds.{counted-sound}
use Rattle.dossier.proofs.Stores.{area-fits}
use Rattle.listing.proofs.Own.{rule_bytes_lem}
use Rattle.listing.proofs.SoundDossier.put.Goals as goal

pub overflow_cast-q : goal.overflow_cast-q
overflow_cast-q c = omega (arith, (counted-sound _ _ c.args.self.now.sound).few, c.requires.there)

pub returns-clause-written : goal.returns-clause-written
returns-clause-written c =
    let a = c.args in
    let high : a.q / 256 % 256 ≡ a.q / 256 = omega (arith, (counted-sound _ _ a.self.now.sound).few, c.requires.there) in
    c.store.ensures ∙ area-fits a.out.now (a.at * width) _ (omega (arith, c.requires.room))
    ∙ rw (c.to_le_bytes.ensures, high, c.from.ensures, c.from-2.ensures)
    (ap (sets a.out.now (a.at * width)) (sym (rule_bytes_lem a.self.now.bytes.now a.q a.effect a.reach (λ k. search rules))))
