-- `arrive::feed`: the part of the line lies within the bytes.
use Rattle.std.proofs.Common.{arith, drop, length-drop}
use Rattle.text.specs.Lines.{lf}
use Rattle.text.specs.CutLaws.{up_to_most}
use Rattle.arrive.proofs.feed.Goals as goal

pub overflow_add-end : goal.overflow_add-end
overflow_add-end c =
    let a = c.args in
    rw c.line_at-part.ensures (omega (arith, up_to_most lf (drop a.at a.bytes.now), length-drop a.at a.bytes.now))
