-- `waits::columns::outcome_after` meets its contract. Assumes nothing.
use Rattle.std.proofs.Common.{eq-eqb, ne_eqb}
use Rattle.machine.specs.Machine.{outcome_on}
use Rattle.waits.proofs.columns.outcome_after.Goals as goal

pub returns-then-flag-ne1 : goal.returns-then-flag-ne1
returns-then-flag-ne1 c = simp (ne_eqb _ _ c.if-flag-ne1.true)

pub returns-then-kind-eq-ON_TIME : goal.returns-then-kind-eq-ON_TIME
unfolding outcome_on
returns-then-kind-eq-ON_TIME c = simp (eq-eqb _ _ c.if-kind-eq-ON_TIME.true, eq-eqb _ _ c.if-flag-ne1.false)

pub returns : goal.returns
unfolding outcome_on
returns c = simp (ne_eqb _ _ c.if-kind-eq-ON_TIME.false, eq-eqb _ _ c.if-flag-ne1.false)
