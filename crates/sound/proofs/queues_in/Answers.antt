-- `sound::queues_in` meets its contract: phrase by phrase, until one fails. Assumes nothing.
use Rattle.std.proofs.Common.{ap, not}
use Rattle.lists.specs.Test.{◌and◌}
use Rattle.lists.specs.LoopLaws.{test_passed, test_failed}
use Rattle.checks.specs.Checks.{queues_in}
use Rattle.sound.proofs.queues_in.Goals as goal

pub returns-then-not-queues : goal.returns-then-not-queues
unfolding queues_in ◌and◌
returns-then-not-queues c = rw (test_failed c.queues.ensures (ap not c.if-not-queues.true))

pub returns : goal.returns
unfolding queues_in ◌and◌
returns c = rw (test_passed c.queues.ensures (ap not c.if-not-queues.false)) c.placed.ensures
