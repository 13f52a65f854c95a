-- `sound_queues::all_empty` meets its contract. The loop carries the test of the places passed. Assumes nothing.
use mathlib.Core.Path.{◌≡◌}
use Rattle.lists.specs.Test.{allb}
use Rattle.checks.specs.Checks.{unused_at}
use Rattle.sound_queues.proofs.all_empty.Given as goal

abbrev pub invariant-loop-q : goal.invariant-loop-q
invariant-loop-q l = l.fits ≡ allb l.q (unused_at l.used 0)
