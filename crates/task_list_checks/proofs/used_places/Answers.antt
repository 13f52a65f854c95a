-- `task_list_checks::used_places` meets its contract. The loop: the places passed have their flags.
use Rattle.std.proofs.Common.{arith, rules}
use Rattle.lists.specs.FillLaws.{fill_done, fill_more, fill_none}
use Rattle.rules.specs.Sizes.{task_places}
use Rattle.task_lists.specs.TaskList.{used_at, used_places}
use Rattle.task_list_checks.proofs.used_places.Goals as goal

pub loop-i-init : goal.loop-i-init
loop-i-init c = fill_none task_places (used_at c.args.n) 0

pub loop-i-preserved : goal.loop-i-preserved
loop-i-preserved c =
    let l = c.loop-i in
    fill_more task_places (used_at c.args.n) 0 l.f l.i _ (omega arith) l.invariant (search rules)

pub returns : goal.returns
unfolding used_places
returns c = (let l = c.loop-i in fill_done task_places (used_at c.args.n) 0 l.f l.i (omega arith) l.invariant)
