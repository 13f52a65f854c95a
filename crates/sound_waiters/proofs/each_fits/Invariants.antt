-- `sound_waiters::each_fits` meets its contract. The loop keeps that the first i tasks pass. Assumes nothing.
use mathlib.Core.List.{List}
use mathlib.Core.Bool.{Bool}
use Prim.Native.Nat.{ℕ}
use lib.ListN.{get_or}
use Rattle.record.specs.declared.Queues.{Queues}
use Rattle.checks.specs.Checks.{queue_wait_fits}
use mathlib.Core.Path.{◌≡◌}
use mathlib.Core.Bool.{true}
use Prim.Native.Nat.{◌-◌, ◌≤◌}
use Rattle.lists.specs.Test.{allb}
use Rattle.rules.specs.Sizes.{task_places}
use Rattle.sound_waiters.proofs.each_fits.Given as goal

abbrev pub fits_at : List ℕ → List ℕ → Queues → List ℕ → ℕ → Bool
fits_at wait object x words i = queue_wait_fits x words i (get_or wait i 0) (get_or object i 0)

abbrev pub invariant-loop-i : goal.invariant-loop-i
invariant-loop-i l = (l.i ≤ task_places) × (true ≡ allb l.i (fits_at l.wait l.object l.x l.words))

abbrev pub decreases-loop-i : goal.decreases-loop-i
decreases-loop-i l = task_places - l.i
