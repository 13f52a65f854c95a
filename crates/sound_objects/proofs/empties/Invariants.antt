-- `sound_objects::empties` meets its contract. The loop: the places passed have their flags.
use mathlib.Core.Path.{◌≡◌}
use Rattle.lists.specs.FillLaws.{so_far}
use Rattle.rules.specs.Sizes.{max_semaphores}
use Rattle.checks.specs.Checks.{empty_at}
use Rattle.sound_objects.proofs.empties.Given as goal

abbrev pub invariant-loop-i : goal.invariant-loop-i
invariant-loop-i l = l.f ≡ so_far max_semaphores (empty_at l.c.count) 0 l.i
