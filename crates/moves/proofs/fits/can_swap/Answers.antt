-- `can_swap`: the first test, and then the second.
use Rattle.std.proofs.Common.{sym, ◌∙◌}
use Rattle.moves.specs.FitsLaws.{swap_first_failed, swap_first_passed}
use Rattle.moves.proofs.fits.can_swap.Goals as goal

pub returns-then-can_take : goal.returns-then-can_take
returns-then-can_take c = c.can_hold.ensures ∙ swap_first_passed _ _ _ _ _ _ (sym c.can_take.ensures ∙ c.if-can_take.true)

pub returns-else-can_take : goal.returns-else-can_take
returns-else-can_take c =
    c.if-can_take.false ∙ swap_first_failed _ _ _ _ _ _ (sym c.can_take.ensures ∙ c.if-can_take.false)
