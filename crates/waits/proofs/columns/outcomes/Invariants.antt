-- `waits::columns::outcomes` meets its contract. Assumes nothing.
use Rattle.std.proofs.Common.{◌≡◌}
use Rattle.lists.specs.FillLaws.{so_far}
use Rattle.rules.specs.Sizes.{task_places}
use Rattle.machine.specs.Machine.{outcome_on, flagged_at}
use Rattle.task_lists.specs.TaskList.{key_of}
use Rattle.waits.proofs.columns.outcomes.Given as goal

abbrev pub invariant-loop-i : goal.invariant-loop-i
invariant-loop-i l = l.r ≡ so_far task_places (flagged_at l.flags (λ j. outcome_on (key_of l.kind j) l.slept l.other) l.column) 0 l.i
