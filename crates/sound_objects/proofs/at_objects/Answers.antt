-- `sound_objects::at_objects` meets its contract. The loop: the places passed are filled.
use Rattle.std.proofs.Common.{arith, refl}
use Rattle.lists.specs.FillLaws.{fill_done, fill_more, fill_none}
use Rattle.rules.specs.Sizes.{task_places}
use Rattle.checks.specs.Checks.{at_object}
use Rattle.sound_objects.proofs.at_objects.Goals as goal

pub loop-i-init : goal.loop-i-init
loop-i-init c = (let a = c.args in fill_none task_places (at_object a.object.now a.table) 0)

pub loop-i-preserved : goal.loop-i-preserved
loop-i-preserved c =
    let a = c.args in
    let l = c.loop-i in
    fill_more task_places (at_object a.object.now a.table) 0 l.a l.i _ (omega arith) l.invariant refl

pub returns : goal.returns
returns c =
    let a = c.args in
    let l = c.loop-i in
    fill_done task_places (at_object a.object.now a.table) 0 l.a l.i (omega arith) l.invariant
