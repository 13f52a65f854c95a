-- `settle::dispatch` meets its contract. Assumes nothing.
use native.Mathlib.Omega.{arith}
use borrow.Author.Tests.{eq-eqb, le-ltb, lt-ltb, ne_eqb}
use mathlib.Core.Path.{refl, ap, sym, ◌∙◌}
use lib.ListN.{length-take}
use Rattle.task_lists.specs.TaskList.{items}
use Rattle.level_marks.specs.Marks.{first_marked}
use Rattle.level_marks.specs.MarkLaws.{marked_somebody}
use Rattle.machine.specs.Machine.{turn_of}
use Rattle.settle.proofs.dispatch.Goals as goal

pub returns-then-started-eq0 : goal.returns-then-started-eq0
unfolding turn_of
returns-then-started-eq0 c = rw (eq-eqb _ _ c.if-started-eq0.true) refl

pub returns-then-word-eq0 : goal.returns-then-word-eq0
unfolding turn_of
returns-then-word-eq0 c = rw (ne_eqb _ _ c.if-started-eq0.false, eq-eqb _ _ (sym c.marks-word.ensures ∙ c.if-word-eq0.true)) refl

pub rest-others-requires : goal.rest-others-requires
rest-others-requires c =
    let q = c.args.ready in
    omega (arith, length-take q.n q.ids, marked_somebody _ (items q) (λ e. c.if-word-eq0.false (c.marks-word.ensures ∙ e)))

pub returns-then-running-eq-NONE : goal.returns-then-running-eq-NONE
unfolding turn_of
returns-then-running-eq-NONE c =
    rw (c.rest-others.ensures, ne_eqb _ _ c.if-started-eq0.false, ne_eqb _ _ (λ e. c.if-word-eq0.false (c.marks-word.ensures ∙ e)), eq-eqb _ _ c.if-running-eq-NONE.true) refl

pub returns-then-hold-ne0 : goal.returns-then-hold-ne0
unfolding turn_of
returns-then-hold-ne0 c =
    rw (ne_eqb _ _ c.if-started-eq0.false, ne_eqb _ _ (λ e. c.if-word-eq0.false (c.marks-word.ensures ∙ e)), ne_eqb _ _ c.if-running-eq-NONE.false, ne_eqb _ _ c.if-hold-ne0.true) refl

pub displace-others-requires : goal.displace-others-requires
displace-others-requires c =
    let q = c.args.ready in
    omega (arith, length-take q.n q.ids, marked_somebody _ (items q) (λ e. c.if-word-eq0.false (c.marks-word.ensures ∙ e)))

pub returns-then-first_level-key_of : goal.returns-then-first_level-key_of
unfolding turn_of
returns-then-first_level-key_of c =
    rw (
      c.displace-others.ensures,
      ne_eqb _ _ c.if-started-eq0.false,
      ne_eqb _ _ (λ e. c.if-word-eq0.false (c.marks-word.ensures ∙ e)),
      ne_eqb _ _ c.if-running-eq-NONE.false,
      eq-eqb _ _ c.if-hold-ne0.false,
      ← (c.first_level.ensures ∙ ap first_marked c.marks-word.ensures),
      ← c.key_of.ensures,
      lt-ltb c.first_level.result c.key_of.result (omega (arith, c.if-first_level-key_of.true)),
    ) refl

pub returns : goal.returns
unfolding turn_of
returns c =
    rw (
      ne_eqb _ _ c.if-started-eq0.false,
      ne_eqb _ _ (λ e. c.if-word-eq0.false (c.marks-word.ensures ∙ e)),
      ne_eqb _ _ c.if-running-eq-NONE.false,
      eq-eqb _ _ c.if-hold-ne0.false,
      ← (c.first_level.ensures ∙ ap first_marked c.marks-word.ensures),
      ← c.key_of.ensures,
      le-ltb c.first_level.result c.key_of.result (omega (arith, c.if-first_level-key_of.false)),
    ) refl
