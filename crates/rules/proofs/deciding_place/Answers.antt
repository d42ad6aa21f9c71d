-- `rules::deciding_place` meets its contract: at each `return` what the passes over the two lists found. Assumes nothing.
use Rattle.std.proofs.Common.{arith}
use Rattle.rules.proofs.Both.{house_settles, recipient-settles, house-first, recipient-first}
use Rattle.rules.proofs.deciding_place.Goals as goal

pub returns-in-Some : goal.returns-in-Some
returns-in-Some c =
    let house = c.first_applying-h.ensures in
    house_settles _ _ _ _ _ _ _ (rw c.in-Some.is at house.found) (rw c.in-Some.is at house.settled_there)

pub returns-in-Some-settled : goal.returns-in-Some-settled
returns-in-Some-settled c =
    let house = c.first_applying-h.ensures in
    let recipient = c.first_applying-r.ensures in
    recipient-settles _ _ _ _ _ _ _ (rw c.in_default.is at house.found) _ _ (rw c.in-Some-settled.is at recipient.found) (omega arith) (rw c.in-Some-settled.is at recipient.settled_there)

pub returns-in-Some-first : goal.returns-in-Some-first
returns-in-Some-first c =
    let house = c.first_applying-h.ensures in
    let recipient = c.first_applying-r.ensures in
    house-first _ _ _ _ _ _ _ (rw (c.in_default.is, c.in-Some-first.is) at house.found) _ _ (rw c.in_default-settled.is at recipient.found) (omega arith) (omega arith) (rw c.in-Some-first.is at house.first_there)

pub returns-in-Some-first-2 : goal.returns-in-Some-first-2
returns-in-Some-first-2 c =
    let house = c.first_applying-h.ensures in
    let recipient = c.first_applying-r.ensures in
    recipient-first _ _ _ _ _ _ _ (rw (c.in_default.is, c.in_default-first.is) at house.found) _ _ (rw (c.in_default-settled.is, c.in-Some-first-2.is) at recipient.found) (omega arith) (omega arith) (omega arith)

pub returns-in-None : goal.returns-in-None
returns-in-None c =
    let house = c.first_applying-h.ensures in
    let recipient = c.first_applying-r.ensures in
    recipient-first _ _ _ _ _ _ _ (rw (c.in_default.is, c.in_default-first.is) at house.found) _ _ (rw (c.in_default-settled.is, c.in-None.is) at recipient.found) (omega arith) (omega arith) (omega arith)
