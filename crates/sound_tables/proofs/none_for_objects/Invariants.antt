-- `sound_tables::none_for_objects` meets its contract. The loop carries the test of the places passed. Assumes nothing.
use mathlib.Core.Path.{◌≡◌}
use Rattle.lists.specs.Test.{allb}
use Rattle.checks.specs.Checks.{no_object_at}
use Rattle.sound_tables.proofs.none_for_objects.Given as goal

abbrev pub invariant-loop-i : goal.invariant-loop-i
invariant-loop-i l = l.none ≡ allb l.i (no_object_at l.wait)
