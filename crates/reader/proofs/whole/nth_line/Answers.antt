-- `reader::whole::nth_line`: the reader hands out the text's lines.
use Rattle.std.proofs.Common.{rules, ◌≡◌, ap, ◌∙◌, []}
use Rattle.std.specs.Prelude.{unwrap_or, option_map}
use Rattle.std.specs.List.{slice_get}
use Rattle.std.proofs.lemmas.Option.{unwrap_or-slice_get}
use Rattle.std.proofs.lemmas.Iterator.Consumers.{nth_from_yields_List, YieldsList-from_first}
use Rattle.text.specs.CutLaws.{part_or}
use Rattle.text.specs.Lines.{lines}
use Rattle.reader.specs.Place.{lines_from}
use Rattle.reader.proofs.whole.nth_line.Goals as goal

pub returns : goal.returns
returns c =
    let all = lines c.args.text.now in
    let e : lines_from c.over.result.text.now c.over.result.at ≡ all = search rules in
    let y : option_map (λ x. x.now) c.nth.result ≡ slice_get all c.args.n =
    nth_from_yields_List _ c.nth.new.self _ c.nth.ensures.ran (YieldsList-from_first (λ l. l.now) (λ r. lines_from r.text.now r.at) all e) ∙ ap (slice_get all) (search rules) in
    ap (λ x. x.now) c.unwrap_or.ensures
    ∙ part_or c.nth.result _
    ∙ ap (λ o. unwrap_or o []) y
    ∙ unwrap_or-slice_get all c.args.n []
