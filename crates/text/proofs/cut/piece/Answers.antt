-- `text::cut::piece`: from `at` on, as many bytes as stand before the next b.
use mathlib.Core.Path.{◌≡◌, ◌∙◌}
use Prim.Native.Nat.{◌-◌}
use native.Mathlib.Omega.{arith}
use lib.ListN.{length, drop}
use Rattle.text.specs.Cut.{up_to}
use Rattle.text.specs.CutLaws.{up_to_take}
use Rattle.text.proofs.cut.piece.Goals as goal

pub returns : goal.returns
returns c =
    let a = c.args in
    let l = drop a.at a.text.now in
    let e : c.find-end.result - a.at ≡ length (up_to a.b l) = omega (arith, c.find-end.ensures) in
    c.part.ensures ∙ rw e (up_to_take a.b l)
