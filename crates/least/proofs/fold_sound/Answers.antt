-- `least::fold_sound` meets its contract: the root's branch is the whole dossier. Assumes nothing.
use Rattle.std.proofs.Common.{ap, arith}
use Rattle.least.specs.declared.Branch.{Branch}
use Rattle.least.proofs.Whole.{whole_plan, written-folds}
use Rattle.least.proofs.fold_sound.Goals as goal

pub place-requires : goal.place-requires
place-requires c =
    (c.requires, whole_plan _ _ c.requires _ _ (omega (arith, c.requires.few)) c.best-root.ensures.planned)

pub returns : goal.returns
returns c =
    let none = ap (λ (b : Branch). b.sums.none) c.best-root.ensures.summed in
    rw none (written-folds _ _ c.requires _ c.place.ensures)
