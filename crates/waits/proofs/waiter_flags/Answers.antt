-- `waits::waiter_flags` meets its contract. Assumes nothing.
use borrow.Author.Rules.{rules}
use Rattle.std.proofs.Common.{arith, rules}
use Rattle.lists.specs.FillLaws.{fill_done, fill_more, fill_none}
use Rattle.rules.specs.Sizes.{task_places}
use Rattle.machine.specs.Machine.{waiter_flag}
use Rattle.waits.proofs.waiter_flags.Goals as goal

pub loop-i-init : goal.loop-i-init
loop-i-init c = let a = c.args in (search rules, fill_none task_places (waiter_flag a.t a.kind a.object) 0)

pub loop-i-preserved : goal.loop-i-preserved
loop-i-preserved c = let a = c.args in let l = c.loop-i in (search rules, fill_more task_places (waiter_flag a.t a.kind a.object) 0 l.f l.i _ (omega arith) l.invariant.1 c.waiter_flag.ensures)

pub returns : goal.returns
returns c = let a = c.args in let l = c.loop-i in fill_done task_places (waiter_flag a.t a.kind a.object) 0 l.f l.i (omega arith) l.invariant.1
