-- `listing::read_back` meets its contract. Assumes nothing.
use Rattle.std.proofs.Common.{replicate, sym, refl, ◌∙◌, arith}
use Rattle.std.proofs.lemmas.Result.{err_from_is_err_and}
use Rattle.dossier.specs.Limits.{most_elements}
use Rattle.dossier.specs.Reading.{Sound}
use Rattle.dossier.specs.declared.elements.Mark.TheVariants.{N as mn}
use Rattle.dossier.proofs.Sounds.{counted-sound, sound-counted, counted}
use Rattle.rules.specs.ReadingRules.{SoundRules}
use Rattle.rules.proofs.ListSounds.{count-sound}
use Rattle.listing.specs.Inner.{Within}
use Rattle.listing.proofs.Gathering.{blank_plan}
use Rattle.listing.proofs.Comparing.{says_yes, says_no}
use Rattle.listing.proofs.Replies.{back-refused, back_rules_refused, back-told, told-marked, told_none}
use Rattle.listing.proofs.read_back.Goals as goal
use Rattle.listing.proofs.read_back.Goals.{In_ok-count, In_ok-read_rules}

-- the elements are sound, and so are the rules
elements : (s : In_ok-count) → Sound s.args.d.now
elements s = counted-sound _ _ (sym s.read.ensures ∙ s.in_ok-count.was)

told : (s : In_ok-read_rules) → SoundRules s.args.d.now s.args.rules.now
told s = ((count-sound _ _ 1 _).0 (sym s.read_rules.ensures ∙ s.in_ok-read_rules.was)).0

pub returns-in_err-count : goal.returns-in_err-count
returns-in_err-count c =
    let p = err_from_is_err_and c.from_residual.result c.from_residual.ensures.1 in
    rw (p.1, p.2) (back-refused _ _ _ (sym c.read.ensures ∙ c.in_err-count.was))

pub returns-in_err-read_rules : goal.returns-in_err-read_rules
returns-in_err-read_rules c =
    let p = err_from_is_err_and c.from_residual-in_err-read_rules.result c.from_residual-in_err-read_rules.ensures.1 in
    rw (p.1, p.2) (back_rules_refused _ _ _ _ (sym c.read.ensures ∙ c.in_ok-count.was) (sym c.read_rules.ensures ∙ c.in_err-read_rules.was))

-- the plan has a place for each target
within : (s : In_ok-read_rules) → Within s.args.rules.now (replicate most_elements mn)
within s i l = omega (arith, (told s).targets i l, (counted-sound _ _ (sym s.read.ensures ∙ s.in_ok-count.was)).few)

pub gather-requires : goal.gather-requires
gather-requires c = within (goal.at.gather-requires c).In_ok-read_rules

pub invariant_of-sound : goal.invariant_of-sound
invariant_of-sound c = record { sound = sound-counted _ (elements (goal.at.invariant_of-sound c).In_ok-count) }

pub invariant_of-list : goal.invariant_of-list
invariant_of-list c = record { sound = (count-sound _ _ 1 _).1 (told (goal.at.invariant_of-list c).In_ok-read_rules, refl) }

pub mark_all-requires : goal.mark_all-requires
mark_all-requires c = omega (arith, (elements (goal.at.mark_all-requires c).In_ok-count).few)

pub returns-then-not-agrees : goal.returns-then-not-agrees
returns-then-not-agrees c =
    back-told _ _ _ _ _ _ (sym c.read.ensures ∙ c.in_ok-count.was) (sym c.read_rules.ensures ∙ c.in_ok-read_rules.was)
    (told_none _ _ _ c.gather.new.plan (within (goal.at.returns-then-not-agrees c).In_ok-read_rules) (blank_plan most_elements) c.gather.ensures (says_no c.agrees.result c.if-not-agrees.true c.agrees.ensures) _ c.refused.ensures)

pub returns : goal.returns
returns c =
    let read = sym c.read.ensures ∙ c.in_ok-count.was in
    back-told _ _ _ _ _ _ read (sym c.read_rules.ensures ∙ c.in_ok-read_rules.was)
    (told-marked _ _ c.gather.new.plan _ (says_yes c.agrees.result c.if-not-agrees.false c.agrees.ensures) c.mark_all.ensures _ (counted _ _ read))
