-- `task_lists::every_id` meets its contract. The loop: the places passed hold their numbers.
use mathlib.Core.Path.{◌≡◌}
use Rattle.lists.specs.FillLaws.{so_far}
use Rattle.task_lists.specs.TaskList.{places}
use Rattle.task_lists.proofs.every_id.Given as goal

abbrev pub invariant-loop-i : goal.invariant-loop-i
invariant-loop-i l = l.ids ≡ so_far places (λ k. k) 0 l.i
