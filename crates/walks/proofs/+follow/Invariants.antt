-- The fuel of `walks::follow` falls at each call.
use Rattle.walks.proofs.+follow.Given as goal

abbrev pub decreases-follow : goal.decreases-follow
decreases-follow l = l.fuel
