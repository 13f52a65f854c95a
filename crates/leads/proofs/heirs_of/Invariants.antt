-- `leads::heirs_of` meets its contract. The loop: the places passed hold their mutexes' heirs.
use mathlib.Core.Path.{◌≡◌}
use Prim.Native.Nat.{◌-◌, ◌≤◌}
use Rattle.lists.specs.FillLaws.{so_far}
use Rattle.rules.specs.Sizes.{max_mutexes}
use Rattle.task_lists.specs.TaskList.{no_id}
use Rattle.record.specs.Reads.{heir_at}
use Rattle.leads.proofs.heirs_of.Given as goal

abbrev pub invariant-loop-i : goal.invariant-loop-i
invariant-loop-i l = (l.i ≤ max_mutexes) × (l.a ≡ so_far max_mutexes (heir_at l.m) no_id l.i)

abbrev pub decreases-loop-i : goal.decreases-loop-i
decreases-loop-i l = max_mutexes - l.i
