-- `settle::rest` meets its contract. Assumes nothing.
use borrow.Author.Rules.{rules}
use mathlib.Core.Path.{◌≡◌, refl}
use Prim.Native.Nat.{◌+◌}
use native.Mathlib.Omega.{arith}
use lib.ListN.{length, length-take}
use Rattle.lists.specs.FillLaws.{fill_more, fill_none}
use Rattle.rules.specs.Sizes.{task_places}
use Rattle.task_lists.specs.TaskList.{no_id, items, task_list_of}
use Rattle.task_lists.specs.TaskListLaws.{same_list}
use Rattle.machine.specs.Machine.{rest_of}
use Rattle.settle.proofs.Laws.{one_on, shift_size, shift_done}
use Rattle.settle.proofs.rest.Goals as goal

pub overflow_sub-left : goal.overflow_sub-left
overflow_sub-left c = let q = c.args.q in let g : length q.ids ≡ task_places = search rules in omega (arith, c.len-left.ensures, length-take q.n q.ids, c.requires)

pub loop-i-init : goal.loop-i-init
loop-i-init c = let q = c.args.q in let g : length q.ids ≡ task_places = search rules in (search rules, omega (arith, c.len-left.ensures, length-take q.n q.ids, c.requires), fill_none task_places (one_on q.ids) no_id)

pub loop-i-preserved : goal.loop-i-preserved
loop-i-preserved c = let l = c.loop-i in (search rules, l.invariant.1, fill_more task_places (one_on c.args.q.ids) no_id l.ids l.i _ (omega arith) l.invariant.2 refl)

pub returns : goal.returns
unfolding rest_of task_list_of
returns c = let l = c.loop-i in let q = c.args.q in let g : length q.ids ≡ task_places = search rules in let all : l.i + 1 ≡ length (items q) = omega (arith, c.len-left.ensures, length-take q.n q.ids, c.requires) in same_list _ _ (shift_done q l.i all l.ids l.invariant.2) (omega (arith, shift_size q l.i all))
