-- `text::cut::find`: the first b of the rest, or its end.
use Rattle.std.proofs.Common.{◌≡◌, drop, length, arith}
use Rattle.std.proofs.lemmas.Grind.{common_steps}
use Rattle.text.specs.Cut.{up_to}
use Rattle.text.specs.CutLaws.{up_to_first}
use Rattle.text.proofs.cut.find.Goals as goal

pub returns : goal.returns
returns c =
    let r = c.unwrap_or-rest.result.now in
    let d : r ≡ drop c.args.at c.args.text.now = grind (arith, common_steps) in
    let on : c.unwrap_or.result ≡ length (up_to c.args.b (drop c.args.at c.args.text.now)) = rw (c.unwrap_or.ensures, c.first.ensures, up_to_first c.args.b r, d) in
    omega (arith, on)
