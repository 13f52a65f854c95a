-- `task_lists::place_in` meets its contract. The loop: the place among the ids that are left, counted from the first of all, is the place sought.
use mathlib.Core.Path.{◌≡◌}
use Prim.Native.Nat.{◌+◌}
use lib.ListN.{drop, take}
use Rattle.task_lists.specs.TaskList.{place_of}
use Rattle.task_lists.proofs.place_in.Given as goal

abbrev pub invariant-loop-i : goal.invariant-loop-i
invariant-loop-i l = l.i + place_of l.keys l.t (drop l.i (take l.n l.ids)) ≡ place_of l.keys l.t (take l.n l.ids)
