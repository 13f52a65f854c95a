-- `piece`: each round ends at a later place.
use Rattle.std.proofs.Common.{length, ◌-◌}
use Rattle.text_check.proofs.arrivals.piece.Given as goal

abbrev pub decreases-loop-at : goal.decreases-loop-at
decreases-loop-at g l = length l.bytes - l.at
