-- `text_check::arrivals::piece`: each call goes on behind the place where it began.
use Rattle.std.proofs.Common.{arith}
use Rattle.arrive.specs.FeedArrivalLaws.{feed_on}
use Rattle.text_check.proofs.arrivals.piece.Goals as goal

pub loop-at-smaller : goal.loop-at-smaller
loop-at-smaller g c =
    let l = c.loop-at in
    rw c.feed-f.ensures.answer (omega (arith, feed_on l.carry l.held c.args.bytes.now l.at c.loop-at-test.true))
