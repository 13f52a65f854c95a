-- `read_line`: where a field ends, the name with the numbers so far and those of the fields that are left makes what the line is.
use mathlib.Core.Path.{◌≡◌}
use Prim.Native.Nat.{◌≤◌, ◌-◌}
use lib.ListN.{length, take}
use Rattle.words.specs.Form.{most_numbers, step_on}
use Rattle.syntax.specs.Unread.{made_with}
use Rattle.syntax.proofs.read_line.Given as goal

abbrev pub invariant-loop-at : goal.invariant-loop-at
invariant-loop-at l = (l.n ≤ most_numbers) × (length l.values ≡ most_numbers) × (made_with l.name (take l.n l.values) l.at l.line ≡ step_on l.line)

abbrev pub decreases-loop-at : goal.decreases-loop-at
decreases-loop-at l = length l.line - l.at
