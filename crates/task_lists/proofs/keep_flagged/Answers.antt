-- `task_lists::keep_flagged` meets its contract. Assumes nothing.
use Rattle.std.proofs.Common.{eqb, rules}
use Rattle.task_lists.specs.TaskList.{key_of, kept}
use Rattle.task_lists.proofs.keep_flagged.Goals as goal

pub returns : goal.returns
unfolding kept
returns c = (let a = c.args in c.keep_where.ensures (λ y. eqb (key_of a.flags y) a.v) (λ x b e. search rules))
