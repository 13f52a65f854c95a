-- `replay`: each call goes on by a byte at least, since the log memory has room for a line.
use Rattle.std.proofs.Common.{length}
use Rattle.cungkalisa.proofs.replay.Given as goal

abbrev pub decreases-loop-rest : goal.decreases-loop-rest
decreases-loop-rest g l = length l.rest
