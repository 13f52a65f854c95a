-- `kernel::step`: the record is tested, the request planned by what the test said, and its words moved.
use mathlib.Core.Path.{refl, ap, ◌∙◌}
use Rattle.record.specs.Whole.{whole}
use Rattle.record.specs.StepRecord.{After, out_of}
use Rattle.machine.specs.Planned.{carried}
use Rattle.kernel.specs.Planning.{Known}
use Rattle.kernel.specs.PlanningLaws.{planned_gives}
use Rattle.kernel.proofs.step.Goals as goal

pub returns : goal.returns
unfolding carried
returns c =
    let a = c.args in
    let test = c.is_sound-sound in
    let K : Known test.result (whole a.s a.words.now a.block.now) = record { typed = test.ensures.types; truth = test.ensures.answer _ refl } in
    let E = planned_gives _ _ _ _ _ _ _ c.plan-p.ensures _ _ refl refl K in
    let moved = c.make.ensures in
    record { answer = ap out_of E; held = moved.held ∙ ap (λ (z : After). z.whole.words) E; memory = moved.memory ∙ ap (λ (z : After). z.whole.block) E }
