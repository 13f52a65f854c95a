-- `decimal::parse`: the number so far, with the digits that are left, is the number of the whole.
use Rattle.std.specs.Prelude.{◌≡◌, drop}
use Rattle.decimal.specs.Parse.{with_digits}
use Rattle.decimal.proofs.parse.Given as goal

abbrev pub invariant-loop-c : goal.invariant-loop-c
invariant-loop-c l = with_digits l.n (drop l.c-index l.s) ≡ with_digits 0 l.s
