-- `walks::lift` meets its contract: each call lifts the first task of the chain.
use Rattle.std.proofs.Common.{arith, ◌∙◌}
use Rattle.walks.proofs.Laws.{lift_spent, lift_out, lift_on, raise_lower, raise_not}
use Rattle.walks.proofs.+lift.Goals as goal
use Rattle.walks.proofs.+lift.Goals.{then-p-levels, else-p-levels}

pub returns-then-fuel-eq0 : goal.returns-then-fuel-eq0
returns-then-fuel-eq0 t c = let a = c.args in lift_spent a.next.now a.at a.levels.now a.p a.fuel c.if-fuel-eq0.true

pub returns-then-first-ge-TASKS : goal.returns-then-first-ge-TASKS
returns-then-first-ge-TASKS t c = let a = c.args in lift_out a.next.now a.at a.levels.now a.p a.fuel c.if-first-ge-TASKS.true

pub returns : goal.returns
returns t c =
    let a = c.args in
    let s = c.if-p-levels in
    lift_on a.next.now a.at a.levels.now a.p s.levels c.lift.new.levels a.fuel (omega arith) c.if-first-ge-TASKS.false
    (elim s.branch [
      | then-p-levels w ↦ w.levels-is ∙ raise_lower a.next.now a.at a.levels.now a.p w.if-p-levels.true
      | else-p-levels w ↦ w.levels-is ∙ raise_not a.next.now a.at a.levels.now a.p w.if-p-levels.false
    ])
    c.lift.ensures
