-- `walks::levels_of` meets its contract. The loop keeps the levels after the first j tasks. Assumes nothing.
use mathlib.Core.Path.{◌≡◌}
use Rattle.walks.specs.Walk.{raised}
use Rattle.walks.proofs.levels_of.Given as goal

abbrev pub invariant-loop-j : goal.invariant-loop-j
invariant-loop-j l = l.l ≡ raised l.own l.next l.n l.j
