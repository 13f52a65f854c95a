-- `sound_objects::empties` meets its contract. The loop: the places passed are filled.
use Rattle.std.proofs.Common.{arith, rules}
use Rattle.lists.specs.FillLaws.{fill_done, fill_more, fill_none}
use Rattle.rules.specs.Sizes.{max_semaphores}
use Rattle.checks.specs.Checks.{empty_at}
use Rattle.sound_objects.proofs.empties.Goals as goal

pub loop-i-init : goal.loop-i-init
loop-i-init c = (let a = c.args in fill_none max_semaphores (empty_at a.c.count) 0)

pub loop-i-preserved : goal.loop-i-preserved
loop-i-preserved c =
    let a = c.args in
    let l = c.loop-i in
    fill_more max_semaphores (empty_at a.c.count) 0 l.f l.i _ (omega arith) l.invariant (search rules)

pub returns : goal.returns
returns c =
    let a = c.args in
    let l = c.loop-i in
    fill_done max_semaphores (empty_at a.c.count) 0 l.f l.i (omega arith) l.invariant
