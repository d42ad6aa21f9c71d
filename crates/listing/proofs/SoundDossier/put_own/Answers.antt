-- `listing::SoundDossier::put_own` meets its contract. Assumes nothing.
use Rattle.std.proofs.Common.{◌∙◌}
use Rattle.dossier.specs.Elements.{opposite, effect_of}
use Rattle.dossier.specs.Bytes.{byte_of}
use Rattle.rules.specs.declared.kinds.Reach.TheVariants.{Itself as self, All as all}
use Rattle.listing.specs.Inner.{rule_on}
use Rattle.listing.proofs.Writing.{put-both}
use Rattle.listing.proofs.SoundDossier.put_own.Goals as goal

pub returns-in-PlusMinus-clause-written : goal.returns-in-PlusMinus-clause-written
returns-in-PlusMinus-clause-written c =
    let a = c.args in
    let d = a.self.now.bytes.now in
    let set = effect_of (byte_of d a.q 1) in
    rw c.in-PlusMinus.is
    (c.put-in-PlusMinus.ensures.written
    ∙ rw (c.put-next.ensures.next, c.put-next.ensures.written, c.opposite.ensures, c.effect-set.ensures) (put-both a.out.now a.at (rule_on d a.q set self) (rule_on d a.q (opposite set) all)))
