-- `task_lists::insert_flagged` meets its contract. The loop: the table and its count, with the tasks of the order still to come tried, are the whole list.
use mathlib.Core.Path.{◌≡◌}
use lib.ListN.{drop}
use Rattle.task_lists.specs.TaskList.{items, first_ids, inserted_flagged}
use Rattle.task_lists.proofs.insert_flagged.Given as goal

abbrev pub invariant-loop-i : goal.invariant-loop-i
invariant-loop-i l =
    inserted_flagged (first_ids l.ids l.k) l.keys l.flags (drop l.i (items l.order)) ≡ inserted_flagged (first_ids l.initial.ids l.initial.k) l.keys l.flags (items l.order)
