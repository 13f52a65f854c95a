-- `task_list_checks::ids_fit` meets its contract. The loop carries the test of the places passed. Assumes nothing.
use Rattle.std.proofs.Common.{◌≡◌}
use Rattle.lists.specs.Test.{allb}
use Rattle.task_lists.specs.TaskList.{id_fits_by}
use Rattle.task_list_checks.proofs.ids_fit.Given as goal

abbrev pub invariant-loop-i : goal.invariant-loop-i
invariant-loop-i l = l.fits ≡ allb l.i (id_fits_by l.ids l.used l.tasks)
