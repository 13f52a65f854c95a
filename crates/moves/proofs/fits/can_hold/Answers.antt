-- `can_hold`: the first test decides where it fails, else the second.
use Rattle.std.proofs.Common.{◌+◌, ◌*◌, arith, le-ltb, le-leb}
use borrow.Author.Tests.{lt-leb}
use Rattle.lists.specs.Test.{◌and◌}
use Rattle.moves.specs.Fits.{can_hold}
use Rattle.moves.proofs.fits.can_hold.Goals as goal

pub returns-then-task-table : goal.returns-then-task-table
unfolding can_hold ◌and◌
returns-then-task-table c = (let a = c.args in rw (le-leb (8 * a.task + 8) a.table (omega arith)))

pub returns-else-task-table : goal.returns-else-task-table
unfolding can_hold ◌and◌
returns-else-task-table c = (let a = c.args in rw (le-ltb _ _ c.if-task-table.false, lt-leb (8 * a.task + 8) a.table (omega arith)))
