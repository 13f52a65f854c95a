-- `sound_queues::each_fits` meets its contract. The loop carries the test of the places passed. Assumes nothing.
use mathlib.Core.Path.{◌≡◌}
use Rattle.lists.specs.Test.{allb}
use Rattle.checks.specs.Checks.{queue_fits_at}
use Rattle.sound_queues.proofs.each_fits.Given as goal

abbrev pub invariant-loop-q : goal.invariant-loop-q
invariant-loop-q l = l.fits ≡ allb l.q (queue_fits_at l.x l.tasks)
