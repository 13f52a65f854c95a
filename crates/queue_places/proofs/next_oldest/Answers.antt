-- `queue_places::next_oldest` meets its contract: the place behind the oldest, or the first where that is the last.
use mathlib.Core.Path.{refl}
use borrow.Author.Tests.{lt-ltb, le-ltb}
use Rattle.queue_places.proofs.next_oldest.Goals as goal

pub returns-then-next-depth_at : goal.returns-then-next-depth_at
returns-then-next-depth_at c = rw (← c.oldest_at.ensures, ← c.depth_at.ensures, lt-ltb _ _ c.if-next-depth_at.true) refl

pub returns : goal.returns
returns c = rw (← c.oldest_at.ensures, ← c.depth_at.ensures, le-ltb _ _ c.if-next-depth_at.false) refl
