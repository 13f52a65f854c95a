-- `sound::places_in` meets its contract. Assumes nothing.
use Rattle.checks.specs.Checks.{places_in}
use Rattle.sound.proofs.places_in.Goals as goal

pub returns : goal.returns
unfolding places_in
returns c = rw (c.places.ensures, c.count_in-all.ensures, c.count_in-waits.ensures)
