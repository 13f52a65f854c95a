-- `task_lists::best_waiter` meets its contract. The loop over the levels: the first found from this level on is the first found from level 0 on; the loop in it: the first of this level among the waiters from this place on is the first of all.
use mathlib.Core.Path.{◌≡◌}
use Prim.Native.Nat.{◌-◌, ◌≤◌}
use lib.ListN.{drop}
use Rattle.lists.specs.Order.{first_at, first_from}
use Rattle.rules.specs.Sizes.{levels}
use Rattle.task_lists.specs.TaskList.{items, key_of, id_of}
use Rattle.task_lists.proofs.best_waiter.Given as goal

abbrev pub invariant-waits : goal.invariant-waits
invariant-waits l = first_at (key_of l.keys) l.l (drop l.i (items l.w)) ≡ first_at (key_of l.keys) l.l (items l.w)

abbrev pub invariant-levels : goal.invariant-levels
invariant-levels l =
    (l.l ≤ levels) × (id_of (first_from (key_of l.keys) (levels - l.l) l.l (items l.w)) ≡ id_of (first_from (key_of l.keys) levels 0 (items l.w)))

abbrev pub decreases-levels : goal.decreases-levels
decreases-levels l = levels - l.l
