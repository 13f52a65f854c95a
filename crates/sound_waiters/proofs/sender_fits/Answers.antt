-- `sound_waiters::sender_fits` meets its contract: phrase by phrase, until one fails. Assumes nothing.
use borrow.Author.Tests.{lt-ltb, le-ltb, eq-eqb, ne_eqb}
use Rattle.lists.specs.Test.{◌and◌}
use Rattle.sound_waiters.proofs.sender_fits.Goals as goal

pub returns-then-x-q : goal.returns-then-x-q
unfolding ◌and◌
returns-then-x-q c = rw (le-ltb _ _ c.if-x-q.true)

pub returns-then-at : goal.returns-then-at
unfolding ◌and◌
returns-then-at c = rw (lt-ltb _ _ c.if-x-q.false, ← c.at.ensures, ← c.at-2.ensures, ne_eqb _ _ c.if-at.true)

pub returns : goal.returns
unfolding ◌and◌
returns c = rw (lt-ltb _ _ c.if-x-q.false, ← c.at.ensures, ← c.at-2.ensures, eq-eqb _ _ c.if-at.false, ← c.at-3.ensures) c.past.ensures
