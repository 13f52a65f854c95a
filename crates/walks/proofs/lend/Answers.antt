-- `walks::lend` meets its contract. Assumes nothing.
use borrow.Author.Tests.{lt-ltb, le-ltb}
use Rattle.walks.specs.Walk.{lent}
use Rattle.walks.proofs.Laws.{raise_lower, raise_not}
use Rattle.walks.proofs.lend.Goals as goal

pub returns-then-o-ge-TASKS : goal.returns-then-o-ge-TASKS
unfolding lent
returns-then-o-ge-TASKS c = rw (le-ltb _ _ c.if-o-ge-TASKS.true)

pub returns-then-p-levels : goal.returns-then-p-levels
unfolding lent
returns-then-p-levels c =
    let a = c.args in
    rw (lt-ltb _ _ c.if-o-ge-TASKS.false) (raise_lower a.levels.now a.to a.levels.now a.p c.if-p-levels.true)

pub returns-else-p-levels : goal.returns-else-p-levels
unfolding lent
returns-else-p-levels c =
    let a = c.args in
    rw (lt-ltb _ _ c.if-o-ge-TASKS.false) (raise_not a.levels.now a.to a.levels.now a.p c.if-p-levels.false)
