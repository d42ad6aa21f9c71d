-- `least::Judging::report` meets its contract. Assumes nothing.
use Rattle.dossier.proofs.Sounds.{counted-sound}
use Rattle.least.proofs.Replies.{judges-wrong, judges-right}
use Rattle.least.proofs.Judging.report.Goals as goal

pub returns-in-Some : goal.returns-in-Some
returns-in-Some c =
    judges-wrong _ _ _ _ _ c.count-count.ensures c.first_wrong.ensures c.in-Some.is

pub returns-in-None : goal.returns-in-None
returns-in-None c =
    judges-right _ _ (counted-sound _ _ c.args.self.now.sound) _ _ _ _ c.count-count.ensures c.first_wrong.ensures
    c.in-None.is c.least_rules.ensures c.excess-verdict.ensures
