-- `record::first::fresh`: the packed fresh state, computed.
use Rattle.std.proofs.Common.{refl}
use Rattle.lists.specs.Table.{pad, filled}
use Rattle.task_lists.specs.TaskList.{task_list_of, id_of}
use Rattle.rules.specs.State.{fresh}
use Rattle.record.specs.Record.{pack_tasks, pack_mutexes, pack_semaphores, pack}
use Rattle.record.specs.DemandRecord.{fresh_record}
use Rattle.record.proofs.first.fresh.Goals as goal

pub returns : goal.returns
unfolding fresh_record fresh pack pack_tasks pack_mutexes pack_semaphores pad filled task_list_of id_of
returns c = rw c.no_queues-queues.ensures refl
