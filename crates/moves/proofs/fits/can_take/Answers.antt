-- `can_take`: the first test, and then the second.
use Rattle.std.proofs.Common.{sym, ◌∙◌}
use Rattle.moves.specs.FitsLaws.{take_first_failed, take_first_passed}
use Rattle.moves.proofs.fits.can_take.Goals as goal

pub returns-then-can_queue : goal.returns-then-can_queue
returns-then-can_queue c = c.can_hold.ensures ∙ take_first_passed _ _ _ _ _ (sym c.can_queue.ensures ∙ c.if-can_queue.true)

pub returns-else-can_queue : goal.returns-else-can_queue
returns-else-can_queue c =
    c.if-can_queue.false ∙ take_first_failed _ _ _ _ _ (sym c.can_queue.ensures ∙ c.if-can_queue.false)
