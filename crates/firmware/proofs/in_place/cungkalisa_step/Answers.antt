-- `cungkalisa_step`: what was planned on the record taken out is what it holds, and its words and the block are moved by that plan.
use Rattle.std.proofs.Common.{List, Option, ℕ, ap, subst, ◌∙◌}
use Rattle.moves.specs.Moves.{words_after, block_after}
use Rattle.record.specs.Whole.{whole}
use Rattle.record.specs.declared.Out.{Out}
use Rattle.calls.specs.Call.{call_of}
use Rattle.calls.specs.CallLaws.{call_given}
use Rattle.calls.specs.Packed.{Carries}
use Rattle.record.specs.declared.Request.{Request}
use Rattle.firmware.proofs.in_place.cungkalisa_step.Goals as goal

pub returns : goal.returns
returns c =
    let a = c.args in
    let k = a.x.now.state in
    let words = a.x.now.words in
    let test = c.tested_in_place-sound.ensures in
    let o = c.tested_call-o.result in
    let given = c.given.ensures in
    let g = call_given k a.code a.a a.b a.c words a.message.now a.block.now o
    (λ m block l n. c.tested_call-o.ensures m block l n (record { typed = test.types; truth = test.answer block n })
    ∙ ap (λ (x : Option Request). call_of (whole k words block) x m) c.request_of-asked.ensures) in (
      subst (λ (p : Out). Carries c.given.result p.answer) g.0 given.0,
      c.state_of-n.ensures ∙ ap (λ (p : Out). p.state) g.0,
      given.1 ∙ g.1,
      given.2 ∙ g.2,
    )
