-- `task_list_checks::ascending` meets its contract. The loop: the neighbours passed are in order, so the test of the items from the last one passed on is the test of all.
use Rattle.std.proofs.Common.{◌≡◌, ◌-◌, drop}
use Rattle.lists.specs.Order.{ascb}
use Rattle.task_lists.specs.TaskList.{items, key_of}
use Rattle.task_list_checks.proofs.ascending.Given as goal

abbrev pub invariant-loop-i : goal.invariant-loop-i
invariant-loop-i l = ascb (key_of l.keys) (drop (l.i - 1) (items l.q)) ≡ ascb (key_of l.keys) (items l.q)
