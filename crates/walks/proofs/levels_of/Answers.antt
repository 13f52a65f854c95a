-- `walks::levels_of` meets its contract. The loop keeps the levels after the first j tasks. Assumes nothing.
use Rattle.std.proofs.Common.{◌∙◌, arith}
use Rattle.walks.proofs.Laws.{raised_none, raised_step, raised_alone}
use Rattle.walks.proofs.levels_of.Goals as goal
use Rattle.walks.proofs.levels_of.Goals.{then-to-lt-TASK_PLACES, else-to-lt-TASK_PLACES}

pub loop-j-init : goal.loop-j-init
loop-j-init c = let a = c.args in raised_none a.own a.next.now a.n

pub loop-j-preserved : goal.loop-j-preserved
loop-j-preserved c = let a = c.args in
    let s = c.loop-j in
    elim c.if-to-lt-TASK_PLACES.branch [
      | then-to-lt-TASK_PLACES w ↦ w.l-is ∙ raised_step a.own a.next.now s.l w.lift.new.levels a.n s.j s.invariant w.lift.ensures
      | else-to-lt-TASK_PLACES w ↦ w.l-is ∙ raised_alone a.own a.next.now s.l a.n s.j s.invariant (omega arith) (omega arith) w.if-to-lt-TASK_PLACES.false
    ]
