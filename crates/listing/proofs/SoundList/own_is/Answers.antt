-- `listing::SoundList::own_is` meets its contract: each mark's rules are those that it asks for. Assumes nothing.
use Rattle.std.proofs.Common.{◌+◌, [], ◌∷◌}
use Rattle.dossier.specs.Elements.{opposite, effect_of}
use Rattle.dossier.specs.Bytes.{byte_of}
use Rattle.rules.specs.Rules.{rules_of}
use Rattle.rules.specs.declared.kinds.Reach.TheVariants.{Itself as self, All as all}
use Rattle.listing.specs.Inner.{rule_on}
use Rattle.listing.proofs.Own.{own_one}
use Rattle.listing.proofs.Starts.{starts_none, starts_more, starts_front, starts_back}
use Rattle.listing.proofs.Comparing.{says_yes, says_no, says_not, says_same, list-sound, says_starts}
use Rattle.listing.proofs.SoundList.own_is.Goals as goal

pub returns-in-N : goal.returns-in-N
returns-in-N c = rw c.in-N.is (starts_none _)

pub returns-in-Minus : goal.returns-in-Minus
returns-in-Minus c =
    rw (own_one _ _ _ c.in-Minus.is)
    (says_starts _ _ (list-sound _ _ c.args.self.now.sound) _ _ _ _ _ (rw (c.effect.ensures, c.one_reach.ensures) at c.rule_is.ensures))

pub returns-then-rule_is : goal.returns-then-rule_is
returns-then-rule_is c =
    let a = c.args in
    let d = a.self.now.d.bytes.now in
    let rs = a.self.now.rules.now in
    let sound = list-sound d rs a.self.now.sound in
    let set = effect_of (byte_of d a.q 1) in
    let one = rule_on d a.q set self ∷ [] in
    let two = rule_on d a.q (opposite set) all ∷ [] in
    let first = says_starts d rs sound a.i a.q set self _ (rw c.effect-set.ensures at c.rule_is-in-PlusMinus.ensures) in
    let second = says_starts d rs sound (a.i + 1) a.q (opposite set) all _ (rw (c.opposite.ensures, c.effect-set.ensures) at c.rule_is-then-rule_is.ensures) in
    rw c.in-PlusMinus.is
    (says_same c.rule_is-then-rule_is.result (starts_more (rules_of rs) a.i one two (says_yes _ c.if-rule_is.true first)) (starts_back (rules_of rs) a.i one two) second)

pub returns-else-rule_is : goal.returns-else-rule_is
returns-else-rule_is c =
    let a = c.args in
    let d = a.self.now.d.bytes.now in
    let rs = a.self.now.rules.now in
    let set = effect_of (byte_of d a.q 1) in
    let first = says_starts d rs (list-sound d rs a.self.now.sound) a.i a.q set self _ (rw c.effect-set.ensures at c.rule_is-in-PlusMinus.ensures) in
    rw c.in-PlusMinus.is (says_not _ c.if-rule_is.false (λ t. says_no _ c.if-rule_is.false first (starts_front (rules_of rs) a.i (rule_on d a.q set self ∷ []) (rule_on d a.q (opposite set) all ∷ []) t)))
