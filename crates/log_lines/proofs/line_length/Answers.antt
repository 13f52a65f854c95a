-- `line_length`: no field is longer than ten bytes, so the sum fits.
use native.Mathlib.Omega.{arith}
use Rattle.log_lines.specs.LogLineLaws.{digits_most, run_most, line_length}
use Rattle.log_lines.proofs.line_length.Goals as goal

pub overflow_add-result : goal.overflow_add-result
overflow_add-result c =
    let a = digits_most _ _ c.digits.ensures in
    let b = digits_most _ _ c.digits-2.ensures in
    omega arith

pub overflow_add-result-2 : goal.overflow_add-result-2
overflow_add-result-2 c =
    let a = digits_most _ _ c.digits.ensures in
    let b = digits_most _ _ c.digits-2.ensures in
    let r = run_most _ c.args.run c.run_length.ensures in
    omega arith

pub overflow_add-result-3 : goal.overflow_add-result-3
overflow_add-result-3 c =
    let a = digits_most _ _ c.digits.ensures in
    let b = digits_most _ _ c.digits-2.ensures in
    let r = run_most _ c.args.run c.run_length.ensures in
    omega arith

pub returns : goal.returns
returns c =
    let a = c.args in
    rw (line_length a.number a.value a.run) (
    omega (arith, c.digits.ensures, c.digits-2.ensures, c.run_length.ensures))
