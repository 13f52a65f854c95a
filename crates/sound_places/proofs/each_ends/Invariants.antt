-- `sound_places::each_ends` meets its contract. The loop keeps that the chains of the first j owners end. Assumes nothing.
use mathlib.Core.Path.{◌≡◌}
use mathlib.Core.Bool.{true}
use Prim.Native.Nat.{◌-◌, ◌≤◌}
use Rattle.lists.specs.Test.{allb}
use Rattle.rules.specs.Sizes.{max_mutexes}
use Rattle.sound_places.proofs.Laws.{ends_from}
use Rattle.sound_places.proofs.each_ends.Given as goal

abbrev pub invariant-loop-j : goal.invariant-loop-j
invariant-loop-j l = (l.j ≤ max_mutexes) × (true ≡ allb l.j (ends_from l.next l.owner))

abbrev pub decreases-loop-j : goal.decreases-loop-j
decreases-loop-j l = max_mutexes - l.j
