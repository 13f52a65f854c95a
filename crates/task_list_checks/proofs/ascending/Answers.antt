-- `task_list_checks::ascending` meets its contract. The loop: the neighbours passed are in order, so the test of the items from the last one passed on is the test of all.
use Rattle.std.proofs.Common.{sym, ◌∙◌, arith}
use Rattle.task_lists.specs.TaskList.{key_of}
use Rattle.task_list_checks.proofs.Laws.{ascb_on, ascb_fail, ascb_end}
use Rattle.task_list_checks.proofs.ascending.Goals as goal

pub returns-then-b-a : goal.returns-then-b-a
returns-then-b-a c =
    let l = c.loop-i in
    sym (ascb_fail c.args.q (key_of c.args.keys) l.i (omega arith) (omega arith) (omega arith)) ∙ l.invariant

pub loop-i-preserved : goal.loop-i-preserved
loop-i-preserved c =
    let l = c.loop-i in
    sym (ascb_on c.args.q (key_of c.args.keys) l.i (omega arith) (omega arith) (omega arith)) ∙ l.invariant

pub returns : goal.returns
returns c =
    sym (ascb_end c.args.q (key_of c.args.keys) c.loop-i.i (omega arith)) ∙ c.loop-i.invariant
