-- `sound_waiters::none_waits` meets its contract. The loop carries the test of the places passed. Assumes nothing.
use mathlib.Core.Path.{◌≡◌}
use Rattle.lists.specs.Test.{allb}
use Rattle.sound_waiters.proofs.Laws.{elsewhere_at}
use Rattle.sound_waiters.proofs.none_waits.Given as goal

abbrev pub invariant-loop-i : goal.invariant-loop-i
invariant-loop-i l = l.none ≡ allb l.i (elsewhere_at l.wait)
