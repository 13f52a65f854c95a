-- `level_marks::first_level` meets its contract. Assumes nothing.
use native.Mathlib.Omega.{arith}
use lib.Count.{trailing_le}
use Rattle.rules.specs.Sizes.{levels}
use Rattle.level_marks.specs.BitLaws.{trailing_where}
use Rattle.level_marks.proofs.first_level.Goals as goal

pub overflow_cast-result : goal.overflow_cast-result
overflow_cast-result c = omega (arith, trailing_le levels c.args.word)

pub returns : goal.returns
returns c = trailing_where levels c.args.word
