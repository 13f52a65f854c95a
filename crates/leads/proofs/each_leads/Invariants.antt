-- `leads::each_leads` meets its contract. The loop: the places passed hold whom their tasks lead to.
use mathlib.Core.Path.{◌≡◌}
use Prim.Native.Nat.{◌-◌, ◌≤◌}
use Rattle.lists.specs.FillLaws.{so_far}
use Rattle.rules.specs.Sizes.{task_places}
use lib.ListN.{get_or}
use Rattle.task_lists.specs.TaskList.{no_id}
use Rattle.record.specs.Reads.{led_by}
use Rattle.leads.proofs.each_leads.Given as goal

abbrev pub invariant-loop-i : goal.invariant-loop-i
invariant-loop-i l = (l.i ≤ task_places) × (l.a ≡ so_far task_places (λ j. led_by l.mutexes l.queues (get_or l.wait j 0) (get_or l.object j 0)) no_id l.i)

abbrev pub decreases-loop-i : goal.decreases-loop-i
decreases-loop-i l = task_places - l.i
