-- `waits::any_flag` meets its contract. Assumes nothing.
-- no place below i holds a 1
use Rattle.std.proofs.Common.{◌≡◌}
use Rattle.lists.specs.Test.{allb}
use Rattle.std.proofs.Common.{List, ℕ, Bool, not, eqb, get_or}
use Rattle.waits.proofs.any_flag.Given as goal

abbrev pub no_one : List ℕ → ℕ → Bool
no_one f j = not (eqb (get_or f j 0) 1)

abbrev pub invariant-loop-i : goal.invariant-loop-i
invariant-loop-i l = l.none ≡ allb l.i (no_one l.f)
