-- `task_lists::insert_flagged` meets its contract. The loop: the table and its count, with the tasks of the order still to come tried, are the whole list.
use mathlib.Core.Path.{refl, sym, ◌∙◌}
use Prim.Native.Nat.{◌<◌}
use native.Mathlib.Omega.{arith}
use lib.ListN.{length}
use Rattle.task_lists.specs.TaskList.{items, first_ids}
use Rattle.task_lists.proofs.Laws.{flagged_on, flagged_off, flagged_end}
use Rattle.task_lists.proofs.insert_flagged.Goals as goal
use Rattle.task_lists.proofs.insert_flagged.Goals.{then-key_in-eq1, else-key_in-eq1}

pub loop-i-init : goal.loop-i-init
loop-i-init c = refl

pub loop-i-preserved : goal.loop-i-preserved
loop-i-preserved c =
    let a = c.args in
    let l = c.loop-i in
    let h : l.i < length (items a.order) = omega arith in
    let k = c.key_in.ensures in
    elim c.if-key_in-eq1.branch [
      | then-key_in-eq1 w ↦
          let f = flagged_on a.keys a.flags a.order l.i (first_ids l.ids l.k) h (sym k ∙ w.if-key_in-eq1.true) in
          rw (w.ids-is, w.k-is, w.insert_in-k.ensures, w.key_in-then-key_in-eq1.ensures) (sym f ∙ l.invariant)
      | else-key_in-eq1 w ↦
          let f = flagged_off a.keys a.flags a.order l.i (first_ids l.ids l.k) h (λ e. w.if-key_in-eq1.false (k ∙ e)) in
          rw (w.ids-is, w.k-is) (sym f ∙ l.invariant)
    ]

pub returns : goal.returns
returns c =
    let a = c.args in
    let l = c.loop-i in
    sym (flagged_end a.keys a.flags a.order l.i (first_ids l.ids l.k) (omega arith)) ∙ l.invariant
