-- `made`: what the code asks for, planned; the words are only read.
use Rattle.std.specs.Prelude.{Option}
use mathlib.Core.Path.{refl, ap, ◌∙◌}
use Rattle.record.specs.Whole.{whole}
use Rattle.calls.specs.Call.{call_of}
use Rattle.record.specs.declared.Request.{Request}
use Rattle.firmware.proofs.by_value.made.Goals as goal

pub returns : goal.returns
returns c =
    let a = c.args in
    let asked = c.request_of-x in
    ((λ m block l n. c.call.ensures m block l n ∙ ap (λ (x : Option Request). call_of (whole a.s a.words.now block) x m) asked.ensures), refl)
