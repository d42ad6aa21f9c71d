-- `rules::asked` meets its contract: at each `return` the replies that led there. Assumes nothing.
use Rattle.std.proofs.Common.{◌≡◌, ◌<◌, ◌≤◌, sym, ap, ◌∙◌, le-ltb, lt-ltb, le-leb, Ok}
use Rattle.std.proofs.lemmas.Result.{err_from_is_err_and}
use borrow.Author.Tests.{lt-leb}
use Rattle.dossier.specs.Bytes.{records}
use Rattle.dossier.specs.Reading.{read_of}
use Rattle.dossier.proofs.Sounds.{counted}
use Rattle.rules.specs.ReadingRules.{read_rules_of}
use Rattle.rules.specs.Deciding.{numbers_of, asked_of}
use Rattle.rules.proofs.Combinings.{combining_given, combining_refused}
use Rattle.rules.proofs.asked.Goals as goal
use Rattle.rules.proofs.asked.Goals.{In_ok-count, In_ok-read_rules, In_ok-read_rules-2}

-- what was replied on the way: the elements, the first list and the second are sound
elements : (s : In_ok-count) → read_of s.args.d.now ≡ Ok s.in_ok-count.count
elements s = sym s.read.ensures ∙ s.in_ok-count.was

first : (s : In_ok-read_rules) → read_rules_of s.args.d.now 1 s.args.house.now ≡ Ok s.in_ok-read_rules.field-0
first s = sym s.read_rules.ensures ∙ s.in_ok-read_rules.was

second : (s : In_ok-read_rules-2) → read_rules_of s.args.d.now 2 s.args.recipient.now ≡ Ok s.in_ok-read_rules-2.field-0
second s = sym s.read_rules-2.ensures ∙ s.in_ok-read_rules-2.was

pub returns-in_err-count : goal.returns-in_err-count
unfolding asked_of
returns-in_err-count c =
    let p = err_from_is_err_and c.from_residual.result c.from_residual.ensures.1 in
    rw (p.1, p.2) (simp (sym c.read.ensures ∙ c.in_err-count.was))

pub returns-in_err-read_rules : goal.returns-in_err-read_rules
unfolding asked_of
returns-in_err-read_rules c =
    let p = err_from_is_err_and c.from_residual-in_err-read_rules.result c.from_residual-in_err-read_rules.ensures.1 in
    rw (p.1, p.2) (simp (elements (goal.at.returns-in_err-read_rules c).In_ok-count, sym c.read_rules.ensures ∙ c.in_err-read_rules.was))

pub returns-in_err-read_rules-2 : goal.returns-in_err-read_rules-2
unfolding asked_of
returns-in_err-read_rules-2 c =
    let p = err_from_is_err_and c.from_residual-in_err-read_rules-2.result c.from_residual-in_err-read_rules-2.ensures.1 in
    let at = goal.at.returns-in_err-read_rules-2 c in
    rw (p.1, p.2) (simp (elements at.In_ok-count, first at.In_ok-read_rules, sym c.read_rules-2.ensures ∙ c.in_err-read_rules-2.was))

pub returns-in_err-combining : goal.returns-in_err-combining
unfolding asked_of numbers_of
returns-in_err-combining c =
    let p = err_from_is_err_and c.from_residual-in_err-combining.result c.from_residual-in_err-combining.ensures.1 in
    let at = goal.at.returns-in_err-combining c in
    let over = combining_refused _ (sym c.try_from.ensures ∙ c.in_err-combining.was) in
    rw (p.1, p.2) (over.1 ∙ simp (elements at.In_ok-count, first at.In_ok-read_rules, second at.In_ok-read_rules-2, lt-ltb _ _ over.0))

pub returns-then-count-element : goal.returns-then-count-element
unfolding asked_of numbers_of
returns-then-count-element c =
    let at = goal.at.returns-then-count-element c in
    let given = combining_given _ (sym c.try_from.ensures ∙ c.in_ok-combining.was) in
    let over : records c.args.d.now ≤ c.args.element = rw (counted _ _ (elements at.In_ok-count)) at c.if-count-element.true in
    c.refused.ensures ∙ simp (elements at.In_ok-count, first at.In_ok-read_rules, second at.In_ok-read_rules-2, le-ltb _ _ given.0, le-leb _ _ over)

pub returns : goal.returns
unfolding asked_of numbers_of
returns c =
    let at = goal.at.returns c in
    let given = combining_given _ (sym c.try_from.ensures ∙ c.in_ok-combining.was) in
    let there : c.args.element < records c.args.d.now = rw (counted _ _ (elements at.In_ok-count)) at c.if-count-element.false in
    ap Ok given.1 ∙ simp (elements at.In_ok-count, first at.In_ok-read_rules, second at.In_ok-read_rules-2, le-ltb _ _ given.0, lt-leb _ _ there)
