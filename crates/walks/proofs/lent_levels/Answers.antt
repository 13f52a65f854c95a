-- `walks::lent_levels` meets its contract. The loop keeps what the first i tasks lend. Assumes nothing.
use borrow.Author.Rules.{rules}
use native.Mathlib.Omega.{arith}
use Rattle.rules.specs.Sizes.{task_places}
use Rattle.walks.proofs.Laws.{lent_none, lent_step, lent_done}
use Rattle.walks.proofs.lent_levels.Goals as goal

pub loop-i-init : goal.loop-i-init
loop-i-init c = let a = c.args in (search rules, lent_none a.own a.to.now a.level.now)

pub loop-i-preserved : goal.loop-i-preserved
loop-i-preserved c =
    let a = c.args in
    let s = c.loop-i in
    (search rules, lent_step a.own a.to.now a.level.now s.l c.lend.new.levels s.i s.invariant.1 c.lend.ensures)

pub returns : goal.returns
returns c =
    let a = c.args in
    let s = c.loop-i in
    lent_done a.own a.to.now a.level.now s.l s.i task_places (omega arith) s.invariant.1
