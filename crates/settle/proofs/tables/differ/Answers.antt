-- `settle::tables::differ` meets its contract. The loop: the places passed have their flags.
use Rattle.std.proofs.Common.{arith, rules}
use Rattle.machine.specs.Machine.{differs, differ_flag}
use Rattle.lists.specs.FillLaws.{fill_done, fill_more, fill_none}
use Rattle.rules.specs.Sizes.{task_places}
use Rattle.settle.proofs.tables.differ.Goals as goal

pub loop-i-init : goal.loop-i-init
loop-i-init c = (let a = c.args in fill_none task_places (differ_flag a.a a.b) 0)

pub loop-i-preserved : goal.loop-i-preserved
unfolding differs
loop-i-preserved c =
    let a = c.args in
    let l = c.loop-i in
    fill_more task_places (differ_flag a.a a.b) 0 l.f l.i _ (omega arith) l.invariant (search rules)

pub returns : goal.returns
returns c = (let a = c.args in let l = c.loop-i in fill_done task_places (differ_flag a.a a.b) 0 l.f l.i (omega arith) l.invariant)
