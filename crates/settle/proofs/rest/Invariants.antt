-- `settle::rest` meets its contract. Assumes nothing.
use mathlib.Core.Path.{◌≡◌}
use Prim.Native.Nat.{◌+◌, ◌-◌, ◌≤◌}
use Rattle.lists.specs.FillLaws.{so_far}
use Rattle.rules.specs.Sizes.{task_places}
use Rattle.task_lists.specs.TaskList.{no_id}
use Rattle.settle.proofs.Laws.{one_on}
use Rattle.settle.proofs.rest.Given as goal

abbrev pub invariant-loop-i : goal.invariant-loop-i
invariant-loop-i l = (l.i ≤ l.left) × (l.left + 1 ≤ task_places) × (l.ids ≡ so_far task_places (one_on l.from) no_id l.i)

abbrev pub decreases-loop-i : goal.decreases-loop-i
decreases-loop-i l = l.left - l.i
