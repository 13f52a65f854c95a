-- `task_list_checks::count_in` meets its contract. The loop: what counting the items that are left makes of the counts is what counting all makes of the first.
use borrow.Author.Rules.{rules}
use Rattle.std.proofs.Common.{◌<◌, length, sym, refl, ap, ◌∙◌, arith, length-set, rules}
use Rattle.task_lists.specs.TaskList.{items}
use Rattle.task_list_checks.proofs.Laws.{counted_step, counted_skip, counted_end}
use Rattle.task_list_checks.proofs.count_in.Goals as goal
use Rattle.task_list_checks.proofs.count_in.Goals.{then-j-lt-PLACES, else-j-lt-PLACES}

pub loop-i-init : goal.loop-i-init
loop-i-init c = (search rules, search rules, refl)

pub loop-i-preserved : goal.loop-i-preserved
loop-i-preserved c =
    let l = c.loop-i in
    let h : l.i < length (items c.args.q) = omega arith in (
      search rules,
      elim c.if-j-lt-PLACES.branch [ then-j-lt-PLACES w ↦ ap length w.r-is ∙ simp length-set l.invariant.1 | else-j-lt-PLACES w ↦ ap length w.r-is ∙ l.invariant.1 ],
      elim c.if-j-lt-PLACES.branch [ then-j-lt-PLACES w ↦ rw (w.r-is) (sym (counted_step c.args.q l.r l.i h) ∙ l.invariant.2) | else-j-lt-PLACES w ↦ rw w.r-is (sym (counted_skip c.args.q l.r l.i h (omega (arith, w.if-j-lt-PLACES.false))) ∙ l.invariant.2) ],
    )

pub returns : goal.returns
returns c =
    sym (counted_end c.args.q c.loop-i.r c.loop-i.i (omega arith)) ∙ c.loop-i.invariant.2
