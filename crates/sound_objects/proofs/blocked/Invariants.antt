-- `sound_objects::blocked` meets its contract. The loop carries the test of the places passed. Assumes nothing.
use mathlib.Core.Path.{◌≡◌}
use Rattle.lists.specs.Test.{allb}
use Rattle.checks.specs.Checks.{blocked_fits_at}
use Rattle.sound_objects.proofs.blocked.Given as goal

abbrev pub invariant-loop-i : goal.invariant-loop-i
invariant-loop-i l = l.fits ≡ allb l.i (blocked_fits_at l.wait l.object l.next l.empty l.semaphores)
