-- `sound::tables_in` meets its contract: phrase by phrase, until one fails. Assumes nothing.
use Rattle.std.proofs.Common.{ap, not}
use Rattle.lists.specs.Test.{◌and◌}
use Rattle.lists.specs.LoopLaws.{test_passed, test_failed}
use Rattle.checks.specs.Checks.{tables_in}
use Rattle.sound.proofs.tables_in.Goals as goal

pub returns-then-not-sizes_in : goal.returns-then-not-sizes_in
unfolding tables_in ◌and◌
returns-then-not-sizes_in c = rw (test_failed c.sizes_in.ensures (ap not c.if-not-sizes_in.true))

pub returns-then-not-tasks_in : goal.returns-then-not-tasks_in
unfolding tables_in ◌and◌
returns-then-not-tasks_in c = rw (test_passed c.sizes_in.ensures (ap not c.if-not-sizes_in.false), test_failed c.tasks_in.ensures (ap not c.if-not-tasks_in.true))

pub returns-then-not-objects_in : goal.returns-then-not-objects_in
unfolding tables_in ◌and◌
returns-then-not-objects_in c = rw (test_passed c.sizes_in.ensures (ap not c.if-not-sizes_in.false), test_passed c.tasks_in.ensures (ap not c.if-not-tasks_in.false), test_failed c.objects_in.ensures (ap not c.if-not-objects_in.true))

pub returns-then-not-queues_in : goal.returns-then-not-queues_in
unfolding tables_in ◌and◌
returns-then-not-queues_in c = rw (test_passed c.sizes_in.ensures (ap not c.if-not-sizes_in.false), test_passed c.tasks_in.ensures (ap not c.if-not-tasks_in.false), test_passed c.objects_in.ensures (ap not c.if-not-objects_in.false), test_failed c.queues_in.ensures (ap not c.if-not-queues_in.true))

pub returns-then-not-words_tidy : goal.returns-then-not-words_tidy
unfolding tables_in ◌and◌
returns-then-not-words_tidy c = rw (test_passed c.sizes_in.ensures (ap not c.if-not-sizes_in.false), test_passed c.tasks_in.ensures (ap not c.if-not-tasks_in.false), test_passed c.objects_in.ensures (ap not c.if-not-objects_in.false), test_passed c.queues_in.ensures (ap not c.if-not-queues_in.false), test_failed c.words_tidy.ensures (ap not c.if-not-words_tidy.true))

pub returns : goal.returns
unfolding tables_in ◌and◌
returns c = rw (test_passed c.sizes_in.ensures (ap not c.if-not-sizes_in.false), test_passed c.tasks_in.ensures (ap not c.if-not-tasks_in.false), test_passed c.objects_in.ensures (ap not c.if-not-objects_in.false), test_passed c.queues_in.ensures (ap not c.if-not-queues_in.false), test_passed c.words_tidy.ensures (ap not c.if-not-words_tidy.false)) c.lists_in.ensures
