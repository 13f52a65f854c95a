-- `sound_objects::mutexes` meets its contract. The loop carries the test of the places passed. Assumes nothing.
use mathlib.Core.Path.{◌≡◌}
use Rattle.lists.specs.Test.{allb}
use Rattle.checks.specs.Checks.{mutex_fits_at}
use Rattle.sound_objects.proofs.mutexes.Given as goal

abbrev pub invariant-loop-i : goal.invariant-loop-i
invariant-loop-i l = l.fits ≡ allb l.i (mutex_fits_at l.m.kind l.m.owner l.m.n l.tasks)
