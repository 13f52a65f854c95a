-- `start`: the sum is the start of queue i, and no place so far had more than `area_most` words.
use mathlib.Core.Path.{◌≡◌}
use Prim.Native.Nat.{◌*◌, ◌≤◌}
use Rattle.rings.specs.Starts.{area_most, start_of}
use Rattle.rings.proofs.start.Given as goal

abbrev pub invariant-loop-i : goal.invariant-loop-i
invariant-loop-i l = (l.sum ≤ area_most * l.i) × (l.sum ≡ start_of l.width l.depth l.i)
