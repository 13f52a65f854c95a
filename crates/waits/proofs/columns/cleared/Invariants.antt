-- `waits::columns::cleared` meets its contract. Assumes nothing.
use Rattle.std.proofs.Common.{◌≡◌}
use Rattle.lists.specs.FillLaws.{so_far}
use Rattle.rules.specs.Sizes.{task_places}
use Rattle.machine.specs.Machine.{flagged_at}
use Rattle.waits.proofs.columns.cleared.Given as goal

abbrev pub invariant-loop-i : goal.invariant-loop-i
invariant-loop-i l = l.r ≡ so_far task_places (flagged_at l.flags (λ j. 0) l.column) 0 l.i
