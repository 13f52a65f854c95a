-- `sound_objects::at_objects` meets its contract. The loop: the places passed hold what stands at their tasks' objects.
use mathlib.Core.Path.{◌≡◌}
use Rattle.lists.specs.FillLaws.{so_far}
use Rattle.rules.specs.Sizes.{task_places}
use Rattle.checks.specs.Checks.{at_object}
use Rattle.sound_objects.proofs.at_objects.Given as goal

abbrev pub invariant-loop-i : goal.invariant-loop-i
invariant-loop-i l = l.a ≡ so_far task_places (at_object l.object l.table) 0 l.i
