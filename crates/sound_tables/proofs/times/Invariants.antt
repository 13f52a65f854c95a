-- `sound_tables::times` meets its contract. The loop carries the test of the places passed. Assumes nothing.
use mathlib.Core.Path.{◌≡◌}
use Rattle.lists.specs.Test.{allb}
use Rattle.checks.specs.Checks.{time_fits_at}
use Rattle.sound_tables.proofs.times.Given as goal

abbrev pub invariant-loop-i : goal.invariant-loop-i
invariant-loop-i l = l.fits ≡ allb l.i (time_fits_at l.wait l.timed l.due l.clock)
