-- `walks::follow` meets its contract: each call passes the first task of the chain.
use Rattle.std.proofs.Common.{arith, sym, ◌∙◌}
use Rattle.walks.proofs.Laws.{links_spent, ring_spent, links_out, ring_out, links_here, ring_here, links_on, ring_on}
use Rattle.walks.proofs.+follow.Goals as goal

pub returns-then-fuel-eq0 : goal.returns-then-fuel-eq0
returns-then-fuel-eq0 t c = let a = c.args in let e = c.if-fuel-eq0.true in (links_spent a.next.now a.at a.caller a.fuel e, ring_spent a.next.now a.at a.caller a.fuel e, omega arith)

pub returns-then-i-ge-TASKS : goal.returns-then-i-ge-TASKS
returns-then-i-ge-TASKS t c = let a = c.args in let h = c.if-i-ge-TASKS.true in (links_out a.next.now a.at a.caller a.fuel h, ring_out a.next.now a.at a.caller a.fuel h, omega arith)

pub returns-then-at-caller : goal.returns-then-at-caller
returns-then-at-caller t c = let a = c.args in (
  links_here a.next.now a.at a.caller a.fuel (omega arith) c.if-i-ge-TASKS.false c.if-at-caller.true,
  ring_here a.next.now a.at a.caller a.fuel (omega arith) c.if-i-ge-TASKS.false c.if-at-caller.true,
  omega arith,
)

pub returns : goal.returns
returns t c =
    let a = c.args in
    let i = c.if-i-ge-TASKS.false in
    let n = c.if-at-caller.false in (
      omega (arith, c.follow-f.ensures.0, links_on a.next.now a.at a.caller a.fuel (omega arith) i n),
      c.follow-f.ensures.1 ∙ sym (ring_on a.next.now a.at a.caller a.fuel (omega arith) i n),
      omega (arith, c.follow-f.ensures.2),
    )
