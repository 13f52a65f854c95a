-- `walks::ends` meets its contract: each call passes the first task of the chain.
use Rattle.std.proofs.Common.{arith, sym, ◌∙◌}
use Rattle.walks.proofs.Laws.{ends_out, ends_spent, ends_in}
use Rattle.walks.proofs.+ends.Goals as goal

pub returns-then-i-ge-TASKS : goal.returns-then-i-ge-TASKS
returns-then-i-ge-TASKS t c = let a = c.args in ends_out a.next.now a.at a.fuel c.if-i-ge-TASKS.true

pub returns-then-fuel-eq0 : goal.returns-then-fuel-eq0
returns-then-fuel-eq0 t c = let a = c.args in ends_spent a.next.now a.at a.fuel c.if-fuel-eq0.true c.if-i-ge-TASKS.false

pub returns : goal.returns
returns t c = let a = c.args in c.ends.ensures ∙ sym (ends_in a.next.now a.at a.fuel (omega arith) c.if-i-ge-TASKS.false)
