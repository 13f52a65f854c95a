-- `task_list_checks::ties_by_id` meets its contract. The loop: the neighbours passed are in order, so the test of the items from the last one passed on is the test of all.
use Rattle.std.proofs.Common.{◌≡◌, ◌-◌, drop}
use Rattle.lists.specs.Order.{tiesb}
use Rattle.task_lists.specs.TaskList.{items, key_of}
use Rattle.task_list_checks.proofs.ties_by_id.Given as goal

abbrev pub invariant-loop-i : goal.invariant-loop-i
invariant-loop-i l = tiesb (key_of l.keys) (drop (l.i - 1) (items l.q)) ≡ tiesb (key_of l.keys) (items l.q)
