-- `dossier::below` meets its contract. The invariant: what is left to read from record i on gives the answer. Assumes nothing.
use Rattle.std.proofs.Common.{sym, ◌∙◌, arith}
use Rattle.dossier.proofs.Covers.{covers_out, covers-before, rest-first, rest-next, rest_stop, rest-last}
use Rattle.dossier.proofs.below.Goals as goal

pub returns-then-d-lower : goal.returns-then-d-lower
returns-then-d-lower c = sym (covers_out _ _ _ c.if-d-lower.true)

pub returns-then-lower-upper : goal.returns-then-lower-upper
returns-then-lower-upper c = sym (covers-before _ _ _ (omega arith))

pub loop-i-init : goal.loop-i-init
loop-i-init c = rest-first _ _ _ _ c.if-d-lower.false c.if-lower-upper.false c.depth-shallowest.ensures

pub returns-then-depth-shallowest : goal.returns-then-depth-shallowest
returns-then-depth-shallowest c =
    let at = c.loop-i in
    sym (rest_stop _ _ _ at.i _ (omega arith) (omega arith) c.depth.ensures c.if-depth-shallowest.true) ∙ at.invariant

pub loop-i-preserved : goal.loop-i-preserved
loop-i-preserved c =
    let at = c.loop-i in
    rest-next _ _ _ at.i _ (omega arith) (omega arith) c.depth.ensures c.if-depth-shallowest.false ∙ at.invariant

pub returns : goal.returns
returns c = sym (rest-last _ _ _ _ (omega arith)) ∙ c.loop-i.invariant
