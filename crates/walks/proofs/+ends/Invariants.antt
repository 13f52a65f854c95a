-- The fuel of `walks::ends` falls at each call.
use Rattle.walks.proofs.+ends.Given as goal

abbrev pub decreases-ends : goal.decreases-ends
decreases-ends l = l.fuel
