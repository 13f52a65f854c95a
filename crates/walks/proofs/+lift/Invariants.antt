-- The fuel of `walks::lift` falls at each call.
use Rattle.walks.proofs.+lift.Given as goal

abbrev pub decreases-lift : goal.decreases-lift
decreases-lift l = l.fuel
