-- `view::view` meets its contract. Assumes nothing.
use Rattle.std.proofs.Common.{sym, ◌∙◌, leb-true}
use Rattle.view.proofs.Replied.{short_views, copied_views}
use Rattle.view.proofs.view.Goals as goal

pub returns-then-not-has_room : goal.returns-then-not-has_room
returns-then-not-has_room c =
    short_views _ _ (sym c.read.ensures ∙ c.in_ok-read.was) (sym c.has_room.ensures ∙ c.if-not-has_room.true) c.refused.ensures

pub copy-requires : goal.copy-requires
copy-requires c = leb-true _ _ (sym c.has_room.ensures ∙ c.if-not-has_room.false)

pub returns : goal.returns
returns c =
    copied_views _ _ (sym c.read.ensures ∙ c.in_ok-read.was) (leb-true _ _ (sym c.has_room.ensures ∙ c.if-not-has_room.false)) c.copy.ensures.0 c.copy.ensures.1
