-- `task_lists::keep_where` meets its contract. The loop: the ids written and their count are the list of those of the items passed that pass the test.
use Rattle.std.proofs.Common.{◌≡◌, ◌<◌, length, sym, ◌∙◌, arith, rules}
use Rattle.task_lists.specs.TaskList.{items, places}
use Rattle.task_lists.proofs.Laws.{keep_start, keep_on, keep_off}
use Rattle.task_lists.proofs.keep_where.Goals as goal
use Rattle.task_lists.proofs.keep_where.Goals.{then-test, else-test}

pub loop-i-init : goal.loop-i-init
loop-i-init g c = record { few = search rules; list = λ p h. keep_start c.args.q p }

pub loop-i-preserved : goal.loop-i-preserved
loop-i-preserved g c =
    let q = c.args.q in
    let l = c.loop-i in
    let h : l.i < length (items q) = omega arith in
    let full : length q.ids ≡ places = search rules in
    record {
      few = elim c.if-test.branch [ then-test w ↦ omega arith | else-test w ↦ omega arith ];
      list = λ p f. elim c.if-test.branch [
        | then-test w ↦ rw (w.ids-is, w.k-is) (keep_on q p l.i l.ids l.k (l.invariant.list p f) h full (sym (f _ _ c.test.ensures) ∙ w.if-test.true))
        | else-test w ↦ rw (w.ids-is, w.k-is) (keep_off q p l.i l.ids l.k (l.invariant.list p f) h (sym (f _ _ c.test.ensures) ∙ w.if-test.false))
      ];
    }
