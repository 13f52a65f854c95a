-- `queue_places::start_of` meets its contract: bytes lead to few words.
use native.Mathlib.Omega.{arith}
use Rattle.queue_places.proofs.Facts.{width_byte, depth_byte}
use Rattle.queue_places.proofs.Laws.{start_in_small}
use Rattle.queue_places.proofs.start_of.Goals as goal

pub returns : goal.returns
returns c =
    let x = c.args.x in
    record { first = c.start.ensures; small = omega (arith, c.start.ensures, start_in_small x.width x.depth (width_byte x _ c.well_formed.0) (depth_byte x _ c.well_formed.0) c.args.q) }
