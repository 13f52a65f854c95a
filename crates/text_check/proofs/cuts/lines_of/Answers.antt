-- `text_check::cuts::lines_of`: the next line begins behind the one before.
use Rattle.std.proofs.Common.{arith}
use Rattle.text.specs.LinesLaws.{next_on}
use Rattle.text_check.proofs.cuts.lines_of.Goals as goal

pub loop-at-smaller : goal.loop-at-smaller
loop-at-smaller g c = omega (arith, next_on c.args.s.now c.loop-at.at c.loop-at-test.true)
