-- `sound::unused_in` meets its contract: column by column, until one fails. Assumes nothing.
use Rattle.std.proofs.Common.{ap, not}
use Rattle.lists.specs.Test.{◌and◌}
use Rattle.lists.specs.LoopLaws.{test_passed, test_failed}
use Rattle.checks.specs.Checks.{others_unused}
use Rattle.sound.proofs.unused_in.Goals as goal

pub returns-then-not-unused : goal.returns-then-not-unused
unfolding others_unused ◌and◌
returns-then-not-unused c = rw (test_failed c.unused.ensures (ap not c.if-not-unused.true))

pub returns-then-not-unused-2 : goal.returns-then-not-unused-2
unfolding others_unused ◌and◌
returns-then-not-unused-2 c = rw (test_passed c.unused.ensures (ap not c.if-not-unused.false), test_failed c.unused-2.ensures (ap not c.if-not-unused-2.true))

pub returns-then-not-unused-3 : goal.returns-then-not-unused-3
unfolding others_unused ◌and◌
returns-then-not-unused-3 c = rw (test_passed c.unused.ensures (ap not c.if-not-unused.false), test_passed c.unused-2.ensures (ap not c.if-not-unused-2.false), test_failed c.unused-3.ensures (ap not c.if-not-unused-3.true))

pub returns-then-not-unused-4 : goal.returns-then-not-unused-4
unfolding others_unused ◌and◌
returns-then-not-unused-4 c = rw (test_passed c.unused.ensures (ap not c.if-not-unused.false), test_passed c.unused-2.ensures (ap not c.if-not-unused-2.false), test_passed c.unused-3.ensures (ap not c.if-not-unused-3.false), test_failed c.unused-4.ensures (ap not c.if-not-unused-4.true))

pub returns : goal.returns
unfolding others_unused ◌and◌
returns c = rw (test_passed c.unused.ensures (ap not c.if-not-unused.false), test_passed c.unused-2.ensures (ap not c.if-not-unused-2.false), test_passed c.unused-3.ensures (ap not c.if-not-unused-3.false), test_passed c.unused-4.ensures (ap not c.if-not-unused-4.false)) c.unused-5.ensures
