-- `decimal::write`: the digits from place i on stand already, and what is left of v has the digits before them.
use Rattle.std.specs.Prelude.{◌≡◌, ◌+◌, ◌++◌, take, drop}
use Rattle.decimal.specs.Decimal.{decimal}
use Rattle.decimal.specs.DecimalLaws.{last_digits}
use Rattle.decimal.proofs.write.Given as goal

abbrev pub invariant-loop-i : goal.invariant-loop-i
invariant-loop-i l =
    (last_digits l.i l.rest ++ drop l.i (decimal l.v) ≡ decimal l.v)
    × (l.out ≡ take (l.at + l.i) l.initial.out ++ drop l.i (decimal l.v) ++ drop (l.at + l.n) l.initial.out)
