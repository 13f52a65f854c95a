-- `lines_of`: each line ends at a later place.
use Rattle.std.proofs.Common.{length, ◌-◌}
use Rattle.text_check.proofs.cuts.lines_of.Given as goal

abbrev pub decreases-loop-at : goal.decreases-loop-at
decreases-loop-at g l = length l.s - l.at
