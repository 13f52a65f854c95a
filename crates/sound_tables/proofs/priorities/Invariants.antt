-- `sound_tables::priorities` meets its contract. The loop carries the test of the places passed. Assumes nothing.
use mathlib.Core.Path.{◌≡◌}
use Rattle.lists.specs.Test.{allb}
use Rattle.checks.specs.Checks.{priority_fits_by}
use Rattle.sound_tables.proofs.priorities.Given as goal

abbrev pub invariant-loop-i : goal.invariant-loop-i
invariant-loop-i l = l.fits ≡ allb l.i (priority_fits_by l.priority l.used)
