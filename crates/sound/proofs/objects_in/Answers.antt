-- `sound::objects_in` meets its contract: phrase by phrase, until one fails. Assumes nothing.
use Rattle.std.proofs.Common.{ap, not}
use Rattle.lists.specs.Test.{◌and◌}
use Rattle.lists.specs.LoopLaws.{test_passed, test_failed}
use Rattle.checks.specs.Checks.{objects_in}
use Rattle.sound.proofs.objects_in.Goals as goal

pub returns-then-not-mutexes : goal.returns-then-not-mutexes
unfolding objects_in ◌and◌
returns-then-not-mutexes c = rw (test_failed c.mutexes.ensures (ap not c.if-not-mutexes.true))

pub returns : goal.returns
unfolding objects_in ◌and◌
returns c = rw (test_passed c.mutexes.ensures (ap not c.if-not-mutexes.false)) c.semaphores.ensures
