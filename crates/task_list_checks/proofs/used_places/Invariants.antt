-- `task_list_checks::used_places` meets its contract. The loop: the places passed have their flags.
use Rattle.std.proofs.Common.{◌≡◌}
use Rattle.lists.specs.FillLaws.{so_far}
use Rattle.rules.specs.Sizes.{task_places}
use Rattle.task_lists.specs.TaskList.{used_at}
use Rattle.task_list_checks.proofs.used_places.Given as goal

abbrev pub invariant-loop-i : goal.invariant-loop-i
invariant-loop-i l = l.f ≡ so_far task_places (used_at l.n) 0 l.i
