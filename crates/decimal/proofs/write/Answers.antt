-- `decimal::write`: the digits from place i on stand already, and what is left of v has the digits before them.
use Rattle.std.proofs.Common.{◌≡◌, sym, ap, ◌∙◌, ℕ, suc, ◌+◌, ◌-◌, List, ◌++◌, append-nil, arith, length, take, drop, set, take-append-drop}
use Rattle.std.proofs.Math.Seq.{drop-length}
use Rattle.decimal.specs.Decimal.{decimal, last_digit, max_digits}
use Rattle.decimal.specs.DecimalLaws.{last_digits, within_last, digit_rest, digit_laid}
use Rattle.decimal.proofs.write.Goals as goal

pub loop-i-init : goal.loop-i-init
unfolding decimal
loop-i-init c =
    let a = c.args in
    let e = c.digits-n.ensures in (
      rw (e, drop-length (decimal a.v), append-nil (last_digits (length (decimal a.v)) a.v)) (within_last max_digits a.v),
      rw (e, drop-length (decimal a.v), append-nil (take (a.at + length (decimal a.v)) a.out.now)) (sym (take-append-drop (a.at + length (decimal a.v)) a.out.now)),
    )

pub loop-i-preserved : goal.loop-i-preserved
loop-i-preserved c =
    let a = c.args in
    let l = c.loop-i in
    let d = decimal a.v in
    let e : l.i ≡ suc (l.i - 1) = omega arith in
    let g : last_digits (suc (l.i - 1)) l.rest ++ drop (suc (l.i - 1)) d ≡ d = rw e at l.invariant.0 in
    let o = rw e at l.invariant.1 in (
      digit_rest (l.i - 1) l.rest d g,
      ap (λ (x : List ℕ). set x (a.at + (l.i - 1)) (last_digit l.rest)) o ∙ digit_laid (l.i - 1) l.rest d g a.out.now a.at c.digits-n.result (omega arith),
    )
