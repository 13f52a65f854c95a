-- `sound_words::zero_from` meets its contract. The loop carries the test of the words passed; those before the first pass anyway, and so do those behind the end. Assumes nothing.
use mathlib.Core.Path.{◌≡◌}
use mathlib.Core.Logic.{◌⊎◌}
use Prim.Native.Nat.{◌*◌, ◌≤◌}
use Rattle.lists.specs.Test.{allb}
use Rattle.rules.specs.Sizes.{held_words, task_places}
use Rattle.checks.specs.Checks.{unused_at}
use Rattle.sound_words.proofs.zero_from.Given as goal

abbrev pub invariant-loop-k : goal.invariant-loop-k
invariant-loop-k l = (l.first ≤ l.k) × ((l.k ≤ held_words * task_places) ⊎ (l.k ≤ l.first)) × (l.fits ≡ allb l.k (unused_at l.words l.first))
