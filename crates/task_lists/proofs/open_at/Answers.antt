-- `task_lists::open_at` meets its contract. Assumes nothing.
use Rattle.std.proofs.Common.{arith}
use Rattle.task_lists.proofs.Laws.{open_shift}
use Rattle.task_lists.proofs.open_at.Goals as goal

pub returns : goal.returns
returns c = (let a = c.args in rw c.copy_within.ensures.after (open_shift a.ids.now a.p a.n a.id (omega arith) (omega arith)))
