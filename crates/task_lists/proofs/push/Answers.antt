-- `task_lists::push` meets its contract.
use borrow.Author.Tests.{lt-ltb, le-ltb}
use Rattle.task_lists.specs.TaskList.{pushed}
use Rattle.task_lists.proofs.push.Goals as goal

pub returns-then-n-lt-PLACES : goal.returns-then-n-lt-PLACES
unfolding pushed
returns-then-n-lt-PLACES c = rw (lt-ltb _ _ c.if-n-lt-PLACES.true)

pub returns : goal.returns
unfolding pushed
returns c = rw (le-ltb _ _ c.if-n-lt-PLACES.false)
