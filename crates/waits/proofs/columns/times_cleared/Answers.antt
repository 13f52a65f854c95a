-- `waits::columns::times_cleared` meets its contract. The loop: the places passed are as they shall be. Assumes nothing.
use Rattle.std.proofs.Common.{arith}
use Rattle.std.proofs.lemmas.Grind.{common_steps}
use Rattle.lists.specs.FillLaws.{fill_done, fill_more, fill_none}
use Rattle.rules.specs.Sizes.{task_places}
use Rattle.machine.specs.Machine.{flagged_at}
use Rattle.waits.proofs.columns.times_cleared.Goals as goal

pub loop-i-init : goal.loop-i-init
loop-i-init c = (let a = c.args in fill_none task_places (flagged_at a.flags.now (λ j. 0) a.column) 0)

pub loop-i-preserved : goal.loop-i-preserved
loop-i-preserved c =
    let a = c.args in
    let l = c.loop-i in
    fill_more task_places (flagged_at a.flags.now (λ j. 0) a.column) 0 l.r l.i _ (omega arith) l.invariant (grind (arith, common_steps))

pub returns : goal.returns
returns c = (let a = c.args in let l = c.loop-i in fill_done task_places (flagged_at a.flags.now (λ j. 0) a.column) 0 l.r l.i (omega arith) l.invariant)
