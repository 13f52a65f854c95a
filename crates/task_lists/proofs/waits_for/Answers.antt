-- `task_lists::waits_for` meets its contract.
use Rattle.std.proofs.Common.{eq-eqb, ne_eqb}
use Rattle.lists.specs.Test.{◌and◌}
use Rattle.task_lists.proofs.waits_for.Goals as goal

pub returns-then-key_in-kind : goal.returns-then-key_in-kind
unfolding ◌and◌
returns-then-key_in-kind c = simp (← c.key_in.ensures, ← c.key_in-then-key_in-kind.ensures, eq-eqb _ _ c.if-key_in-kind.true)

pub returns-else-key_in-kind : goal.returns-else-key_in-kind
unfolding ◌and◌
returns-else-key_in-kind c = simp (← c.key_in.ensures, ne_eqb _ _ c.if-key_in-kind.false)
