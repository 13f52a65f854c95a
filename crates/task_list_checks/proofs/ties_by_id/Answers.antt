-- `task_list_checks::ties_by_id` meets its contract. The loop: the neighbours passed are in order, so the test of the items from the last one passed on is the test of all.
use Rattle.std.proofs.Common.{◌<◌, length, sym, ◌∙◌, arith}
use Rattle.task_lists.specs.TaskList.{items, key_of}
use Rattle.task_list_checks.proofs.Laws.{tiesb_apart, tiesb_on, tiesb_fail, tiesb_end}
use Rattle.task_list_checks.proofs.ties_by_id.Goals as goal
use Rattle.task_list_checks.proofs.ties_by_id.Goals.{then-key_of+else-y-x, else-key_of}

pub returns-then-y-x : goal.returns-then-y-x
returns-then-y-x c =
    let l = c.loop-i in
    sym (tiesb_fail c.args.q (key_of c.args.keys) l.i (omega arith) (omega arith) (omega arith) c.if-y-x.true) ∙ l.invariant

pub loop-i-preserved : goal.loop-i-preserved
loop-i-preserved c =
    let a = c.args in
    let l = c.loop-i in
    let h : l.i < length (items a.q) = omega arith in
    let p : 0 < l.i = omega arith in
    elim c.if-key_of.branch [ then-key_of+else-y-x w ↦ sym (tiesb_on a.q (key_of a.keys) l.i p h (omega arith)) ∙ l.invariant | else-key_of w ↦ sym (tiesb_apart a.q (key_of a.keys) l.i p h (λ e. w.if-key_of.false (omega arith))) ∙ l.invariant ]

pub returns : goal.returns
returns c =
    sym (tiesb_end c.args.q (key_of c.args.keys) c.loop-i.i (omega arith)) ∙ c.loop-i.invariant
