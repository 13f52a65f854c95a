-- `text::fields::nth`: the fields are the parts of std's `split`.
use Rattle.std.proofs.Common.{rules, ◌≡◌, ap, ◌∙◌, [], get_or}
use Rattle.std.specs.Prelude.{eqb, unwrap_or, option_map}
use Rattle.std.specs.List.{slice_get, slice_split}
use Rattle.std.proofs.lemmas.Option.{unwrap_or-slice_get}
use Rattle.std.proofs.lemmas.Iterator.Consumers.{nth_from_yields_List}
use Rattle.std.proofs.lemmas.Iterator.Splits.{YieldsList-from_slice_split}
use borrow.Author.Tests.{tests}
use Rattle.text.specs.Fields.{tab}
use Rattle.text.specs.CutLaws.{part_or}
use Rattle.text.specs.FieldsLaws.{fields_split}
use Rattle.text.proofs.fields.nth.Goals as goal

pub returns : goal.returns
returns c =
    let a = c.args in
    let s = c.split.ensures in
    let y : option_map (λ x. x.now) c.nth.result ≡ slice_get (slice_split (λ x. eqb x tab) a.line.now) a.n =
    nth_from_yields_List _ c.nth.new.self _ c.nth.ensures.ran (YieldsList-from_slice_split _ (λ x. eqb x tab) a.line.now s.rest s.done s.closure (λ x b q h. search (rules, tests)))
    ∙ ap (slice_get (slice_split (λ x. eqb x tab) a.line.now)) (search rules) in
    ap (λ x. x.now) c.unwrap_or.ensures
    ∙ part_or c.nth.result _
    ∙ ap (λ o. unwrap_or o []) y
    ∙ unwrap_or-slice_get (slice_split (λ x. eqb x tab) a.line.now) a.n []
    ∙ ap (λ l. get_or l a.n []) (fields_split a.line.now)
