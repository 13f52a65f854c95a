-- `waits::waiter_flags` meets its contract. Assumes nothing.
use Rattle.std.proofs.Common.{◌≡◌, ◌-◌, ◌≤◌, get_or}
use Rattle.lists.specs.FillLaws.{so_far}
use Rattle.rules.specs.Sizes.{task_places}
use Rattle.machine.specs.Machine.{waits_on}
use Rattle.waits.proofs.waiter_flags.Given as goal

abbrev pub invariant-loop-i : goal.invariant-loop-i
invariant-loop-i l = (l.i ≤ task_places) × (l.f ≡ so_far task_places (λ j. waits_on (get_or l.wait j 0) (get_or l.at j 0) l.kind l.object) 0 l.i)

abbrev pub decreases-loop-i : goal.decreases-loop-i
decreases-loop-i l = task_places - l.i
