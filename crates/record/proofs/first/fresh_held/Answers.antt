-- `record::first::fresh_held`: the fresh record, and words 0.
use Rattle.std.proofs.Common.{refl}
use Rattle.record.specs.DemandRecord.{fresh_held}
use Rattle.record.proofs.first.fresh_held.Goals as goal

pub returns : goal.returns
unfolding fresh_held
returns c = rw c.fresh-first.ensures refl
