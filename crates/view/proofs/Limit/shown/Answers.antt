-- `view::Limit::shown` meets its contract. Assumes nothing.
use Rattle.view.proofs.Remembering.{reads_below, reads_permit, reads_other}
use Rattle.view.proofs.Limit.shown.Goals as goal

pub returns-then-depth-self : goal.returns-then-depth-self
returns-then-depth-self c = reads_below _ _ _ c.depth-depth.ensures c.if-depth-self.true

pub returns-in-Permit : goal.returns-in-Permit
returns-in-Permit c = reads_permit _ _ _ c.depth-depth.ensures c.if-depth-self.false c.hand_on.ensures.answered c.hand_on.ensures.handed c.in-Permit.is

pub returns-in_default : goal.returns-in_default
returns-in_default c = reads_other _ _ _ c.depth-depth.ensures c.if-depth-self.false c.hand_on.ensures.answered c.hand_on.ensures.handed c.in_default.not-Permit
