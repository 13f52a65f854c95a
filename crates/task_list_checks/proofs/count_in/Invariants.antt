-- `task_list_checks::count_in` meets its contract. The loop: what counting the items that are left makes of the counts is what counting all makes of the first.
use Rattle.std.proofs.Common.{◌≡◌, ◌-◌, ◌≤◌, length, drop}
use Rattle.task_lists.specs.TaskList.{items, counted, places}
use Rattle.task_list_checks.proofs.count_in.Given as goal

abbrev pub invariant-loop-i : goal.invariant-loop-i
invariant-loop-i l = (l.i ≤ l.n) × (length l.r ≡ places) × (counted l.r (drop l.i (items l.q)) ≡ counted l.initial.r (items l.q))

abbrev pub decreases-loop-i : goal.decreases-loop-i
decreases-loop-i l = l.n - l.i
