-- `walks::lent_levels` meets its contract. The loop keeps what the first i tasks lend. Assumes nothing.
use mathlib.Core.Path.{◌≡◌}
use Prim.Native.Nat.{◌-◌, ◌≤◌}
use Rattle.rules.specs.Sizes.{task_places}
use Rattle.walks.specs.Walk.{lent_by}
use Rattle.walks.proofs.lent_levels.Given as goal

abbrev pub invariant-loop-i : goal.invariant-loop-i
invariant-loop-i l = (l.i ≤ task_places) × (l.l ≡ lent_by l.initial.l l.to l.level l.i)

abbrev pub decreases-loop-i : goal.decreases-loop-i
decreases-loop-i l = task_places - l.i
