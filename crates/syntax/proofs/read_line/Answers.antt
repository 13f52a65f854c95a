-- `read_line`: where a field ends, the name with the numbers so far and those of the fields that are left makes what the line is.
use borrow.Author.Rules.{rules}
use mathlib.Core.Path.{ap, sym, ◌∙◌}
use native.Mathlib.Numerals.{add-one}
use native.Mathlib.Omega.{arith}
use lib.ListN.{length-set}
use lib.Seq.{take-suc-set, length-take-le}
use Rattle.syntax.specs.Line.{line_read}
use Rattle.syntax.specs.LineLaws.{line_long, line_name, line_end_lem, line_many, line_within, line_bad, line_number}
use Rattle.syntax.proofs.read_line.Goals as goal

pub returns-then-line-gt-LONGEST : goal.returns-then-line-gt-LONGEST
returns-then-line-gt-LONGEST c = c.no_step.ensures ∙ ap line_read (line_long _ c.if-line-gt-LONGEST.true)

pub loop-at-init : goal.loop-at-init
loop-at-init c = (search rules, search rules, line_name _ _ c.if-line-gt-LONGEST.false c.nth-name.ensures)

pub returns-then-n-eq-MOST_NUMBERS : goal.returns-then-n-eq-MOST_NUMBERS
returns-then-n-eq-MOST_NUMBERS c =
    let l = c.loop-at in
    c.no_step-then-n-eq-MOST_NUMBERS.ensures ∙ ap line_read (line_many _ _ _ _ l.invariant.2 c.loop-at-test.true (length-take-le _ _ (omega arith) ∙ c.if-n-eq-MOST_NUMBERS.true))

pub returns-in_default : goal.returns-in_default
returns-in_default c =
    let none-there = line_bad _ _ _ _ c.loop-at.invariant.2 c.loop-at-test.true _ c.piece-field.ensures (sym c.parse.ensures ∙ c.in_default.is) in
    c.no_step-in_default.ensures ∙ ap line_read none-there

pub overflow_add-at : goal.overflow_add-at
overflow_add-at c =
    omega (arith, line_within _ _ _ _ c.loop-at.invariant.2 c.loop-at-test.true _ c.piece-field.ensures)

pub loop-at-preserved : goal.loop-at-preserved
loop-at-preserved c =
    let l = c.loop-at in
    let more = line_number _ _ _ _ l.invariant.2 c.loop-at-test.true _ c.piece-field.ensures _ (sym c.parse.ensures ∙ c.in-Some.is) in
    (omega arith, rw length-set l.invariant.1, rw (add-one l.n, take-suc-set l.values l.n c.in-Some.value (omega arith)) more)

pub slice_bounds-numbers-end : goal.slice_bounds-numbers-end
slice_bounds-numbers-end c = let l = c.loop-at in sym (length-take-le l.n l.values (omega arith))

pub returns : goal.returns
returns c =
    c.read_row.ensures ∙ ap line_read (line_end_lem _ _ _ _ c.loop-at.invariant.2 c.loop-at-test.false)
