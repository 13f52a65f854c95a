-- `settle::tables::both` meets its contract.
use mathlib.Core.Path.{◌≡◌}
use Rattle.machine.specs.Machine.{both_flag}
use Rattle.lists.specs.FillLaws.{so_far}
use Rattle.rules.specs.Sizes.{task_places}
use Rattle.settle.proofs.tables.both.Given as goal

abbrev pub invariant-loop-i : goal.invariant-loop-i
invariant-loop-i l = l.f ≡ so_far task_places (both_flag l.a l.b) 0 l.i
