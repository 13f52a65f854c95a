-- `is_formed`: a send has one to eight words.
use mathlib.Core.Path.{refl}
use borrow.Author.Tests.{lt-ltb, le-ltb}
use Rattle.lists.specs.Test.{◌and◌}
use Rattle.kernel.specs.Planning.{formed_by}
use Rattle.kernel.proofs.is_formed.Goals as goal

pub returns-then-count-gt0 : goal.returns-then-count-gt0
unfolding formed_by ◌and◌
returns-then-count-gt0 c = rw (c.in-Send.is, lt-ltb _ _ c.if-count-gt0.true) refl

pub returns-else-count-gt0 : goal.returns-else-count-gt0
unfolding formed_by ◌and◌
returns-else-count-gt0 c = rw (c.in-Send.is, le-ltb _ _ c.if-count-gt0.false) refl
