-- `tested_call`: on a record that was tested it goes by what is asked for.
use mathlib.Core.Path.{ap, sym, ◌∙◌}
use Rattle.record.specs.Whole.{whole}
use Rattle.machine.specs.Planned.{carried}
use Rattle.kernel.specs.PlanningLaws.{malformed_gives, unsound_gives, performed_gives}
use Rattle.calls.specs.Call.{call_of}
use Rattle.calls.specs.CallLaws.{malformed_call}
use Rattle.calls.proofs.tested_call.Goals as goal

pub returns-in_default : goal.returns-in_default
returns-in_default c = λ m block l n K.
    let a = c.args in
    let h = whole a.s a.words.now block in
    ap (carried h m) c.stay.ensures ∙ rw c.in_default.is (malformed_call a.sound h m K.truth _ c.malformed-no_step.ensures)

pub returns-then-not-is_formed : goal.returns-then-not-is_formed
unfolding call_of
returns-then-not-is_formed c = λ m block l n K.
    let a = c.args in
    let h = whole a.s a.words.now block in
    ap (carried h m) c.stay-then-not-is_formed.ensures ∙ rw c.in-Some.is (malformed_gives _ _ _ _ _ _ (sym c.is_formed.ensures ∙ c.if-not-is_formed.true) _ c.malformed-no_message.ensures m block l n K)

pub returns-then-not-sound : goal.returns-then-not-sound
unfolding call_of
returns-then-not-sound c = λ m block l n K.
    let a = c.args in
    let formed = c.is_formed in
    let h = whole a.s a.words.now block in
    ap (carried h m) c.stay-then-not-sound.ensures ∙ rw c.in-Some.is (unsound_gives _ _ _ _ _ _ (sym formed.ensures ∙ c.if-not-is_formed.false) (c.if-not-sound.true) _ c.unsound.ensures m block l n K)

pub returns : goal.returns
unfolding call_of
returns c = λ m block l n K.
    let a = c.args in
    let formed = c.is_formed in
    rw c.in-Some.is (performed_gives _ _ _ _ _ _ (sym formed.ensures ∙ c.if-not-is_formed.false) (c.if-not-sound.false) _ c.perform.ensures m block l n K)
