-- `task_lists::every_id` meets its contract. The loop: the places passed hold their numbers.
use Rattle.std.proofs.Common.{refl, ◌∙◌, arith}
use Rattle.lists.specs.FillLaws.{fill_done, fill_more, fill_none}
use Rattle.task_lists.specs.TaskList.{places}
use Rattle.task_lists.proofs.Laws.{filled_range}
use Rattle.task_lists.proofs.every_id.Goals as goal

pub loop-i-init : goal.loop-i-init
loop-i-init c = fill_none places (λ k. k) 0

pub loop-i-preserved : goal.loop-i-preserved
loop-i-preserved c = let l = c.loop-i in fill_more places (λ k. k) 0 l.ids l.i _ (omega arith) l.invariant refl

pub returns : goal.returns
returns c =
    let l = c.loop-i in
    let e = fill_done places (λ k. k) 0 l.ids l.i (omega arith) l.invariant ∙ filled_range places in
    rw e refl
