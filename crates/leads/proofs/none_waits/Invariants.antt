-- `leads::none_waits` meets its contract. The loop carries the test of the places passed. Assumes nothing.
use mathlib.Core.Path.{◌≡◌}
use Rattle.lists.specs.Test.{allb}
use Rattle.record.specs.Reads.{leads_nowhere_at}
use Rattle.leads.proofs.none_waits.Given as goal

abbrev pub invariant-loop-i : goal.invariant-loop-i
invariant-loop-i l = l.none ≡ allb l.i (leads_nowhere_at l.wait)
