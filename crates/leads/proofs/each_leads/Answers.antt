-- `leads::each_leads` meets its contract. The loop: the places passed hold whom their tasks lead to.
use borrow.Author.Rules.{rules}
use mathlib.Core.Path.{◌∙◌}
use native.Mathlib.Omega.{arith}
use Rattle.lists.specs.FillLaws.{fill_done, fill_more, fill_none}
use Rattle.rules.specs.Sizes.{task_places}
use lib.ListN.{get_or}
use Rattle.task_lists.specs.TaskList.{no_id}
use Rattle.record.specs.Reads.{led_by}
use Rattle.leads.proofs.Laws.{led_same}
use Rattle.leads.proofs.each_leads.Goals as goal

pub loop-i-init : goal.loop-i-init
loop-i-init c = let a = c.args in (search rules, fill_none task_places (λ j. led_by a.mutexes a.queues (get_or a.wait.now j 0) (get_or a.object.now j 0)) no_id)

pub loop-i-preserved : goal.loop-i-preserved
loop-i-preserved c =
    let a = c.args in
    let l = c.loop-i in
    (search rules, fill_more task_places (λ j. led_by a.mutexes a.queues (get_or a.wait.now j 0) (get_or a.object.now j 0)) no_id l.a l.i _ (omega arith) l.invariant.1 (c.led_to.ensures ∙ led_same a.mutexes a.queues (get_or a.wait.now l.i 0) (get_or a.object.now l.i 0) (search rules) (search rules)))

pub returns : goal.returns
returns c =
    let a = c.args in
    let l = c.loop-i in
    fill_done task_places (λ j. led_by a.mutexes a.queues (get_or a.wait.now j 0) (get_or a.object.now j 0)) no_id l.a l.i (omega arith) l.invariant.1
