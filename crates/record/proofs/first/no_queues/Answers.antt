-- `record::first::no_queues`: the packed fresh state's table of queues, computed.
use Rattle.std.proofs.Common.{refl}
use Rattle.lists.specs.Table.{pad}
use Rattle.rules.specs.State.{fresh}
use Rattle.record.specs.Record.{pack_queues, pack}
use Rattle.record.specs.DemandRecord.{fresh_record}
use Rattle.record.proofs.first.no_queues.Goals as goal

pub returns : goal.returns
unfolding fresh_record fresh pack pack_queues pad
returns c = refl
