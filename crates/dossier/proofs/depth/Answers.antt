-- `dossier::depth` meets its contract. Assumes nothing.
use Rattle.std.proofs.Common.{sym, ◌∙◌, add-zero}
use Rattle.dossier.proofs.Laws.{depth-bytes, depth-none}
use Rattle.dossier.proofs.depth.Goals as goal

pub returns-then-d-i : goal.returns-then-d-i
returns-then-d-i c = sym (depth-none _ _ c.if-d-i.true)

pub returns : goal.returns
returns c =
    let a = c.args in
    c.two.ensures ∙ sym (simp add-zero at (depth-bytes a.d.now a.i c.if-d-i.false))
