-- `least::Judging::least_rules` meets its contract. Assumes nothing.
use Rattle.std.proofs.Common.{rules, ap}
use Rattle.dossier.proofs.Sounds.{counted-sound}
use Rattle.least.specs.declared.Branch.{Branch}
use Rattle.least.proofs.Judging.least_rules.Goals as goal

pub returns : goal.returns
returns c = ap (λ (b : Branch). b.sums.none) c.best-root.ensures.summed

pub best-root-requires : goal.best-root-requires
best-root-requires c = let sound = counted-sound _ _ c.args.self.now.sound in search rules
