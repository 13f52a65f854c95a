-- `sound_words::past` meets its contract. The loop carries the test of the words passed. Assumes nothing.
use mathlib.Core.Bool.{Bool}
use mathlib.Core.List.{List}
use Prim.Native.Nat.{ℕ, ◌+◌, ◌*◌}
use lib.Dec.{ltb, eqb}
use lib.ListN.{get_or}
use mathlib.Core.Path.{◌≡◌}
use Rattle.lists.specs.Test.{◌or◌, allb}
use Rattle.rules.specs.Sizes.{held_words}
use Rattle.sound_words.proofs.past.Given as goal

abbrev pub zero_at : List ℕ → ℕ → ℕ → ℕ → Bool
zero_at words i width n = ltb n width or eqb (get_or words (held_words * i + n) 0) 0

abbrev pub invariant-loop-n : goal.invariant-loop-n
invariant-loop-n l = l.fits ≡ allb l.n (zero_at l.words l.i l.width)
