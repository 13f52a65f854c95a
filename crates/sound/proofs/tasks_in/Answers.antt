-- `sound::tasks_in` meets its contract: phrase by phrase, until one fails. Assumes nothing.
use Rattle.std.proofs.Common.{not}
use mathlib.Core.Path.{ap, ◌∙◌}
use mathlib.Core.List.{List}
use Prim.Native.Nat.{ℕ}
use Rattle.lists.specs.Test.{◌and◌, allb}
use Rattle.lists.specs.LoopLaws.{test_passed, test_failed}
use Rattle.rules.specs.Sizes.{task_places}
use Rattle.checks.specs.Checks.{priority_fits_by, others_unused}
use Rattle.checks.specs.TestedLaws.{tasks_tested}
use Rattle.sound.proofs.tasks_in.Goals as goal

pub returns-then-not-priorities : goal.returns-then-not-priorities
unfolding ◌and◌
returns-then-not-priorities c =
    let a = c.args in
    let used = c.used_places-used.ensures in
    rw (tasks_tested a.t a.clock, test_failed (c.priorities.ensures ∙ ap (λ (u : List ℕ). allb task_places (priority_fits_by a.t.priority u)) used) (ap not c.if-not-priorities.true))

pub returns-then-not-unused_in : goal.returns-then-not-unused_in
unfolding ◌and◌
returns-then-not-unused_in c =
    let a = c.args in
    let used = c.used_places-used.ensures in
    rw (tasks_tested a.t a.clock, test_passed (c.priorities.ensures ∙ ap (λ (u : List ℕ). allb task_places (priority_fits_by a.t.priority u)) used) (ap not c.if-not-priorities.false), test_failed (c.unused_in.ensures ∙ ap (others_unused a.t) used) (ap not c.if-not-unused_in.true))

pub returns-then-not-waits : goal.returns-then-not-waits
unfolding ◌and◌
returns-then-not-waits c =
    let a = c.args in
    let used = c.used_places-used.ensures in
    rw (tasks_tested a.t a.clock, test_passed (c.priorities.ensures ∙ ap (λ (u : List ℕ). allb task_places (priority_fits_by a.t.priority u)) used) (ap not c.if-not-priorities.false), test_passed (c.unused_in.ensures ∙ ap (others_unused a.t) used) (ap not c.if-not-unused_in.false), test_failed c.waits.ensures (ap not c.if-not-waits.true))

pub returns-then-not-times : goal.returns-then-not-times
unfolding ◌and◌
returns-then-not-times c =
    let a = c.args in
    let used = c.used_places-used.ensures in
    rw (tasks_tested a.t a.clock, test_passed (c.priorities.ensures ∙ ap (λ (u : List ℕ). allb task_places (priority_fits_by a.t.priority u)) used) (ap not c.if-not-priorities.false), test_passed (c.unused_in.ensures ∙ ap (others_unused a.t) used) (ap not c.if-not-unused_in.false), test_passed c.waits.ensures (ap not c.if-not-waits.false), test_failed c.times.ensures (ap not c.if-not-times.true))

pub returns : goal.returns
unfolding ◌and◌
returns c =
    let a = c.args in
    let used = c.used_places-used.ensures in
    rw (tasks_tested a.t a.clock, test_passed (c.priorities.ensures ∙ ap (λ (u : List ℕ). allb task_places (priority_fits_by a.t.priority u)) used) (ap not c.if-not-priorities.false), test_passed (c.unused_in.ensures ∙ ap (others_unused a.t) used) (ap not c.if-not-unused_in.false), test_passed c.waits.ensures (ap not c.if-not-waits.false), test_passed c.times.ensures (ap not c.if-not-times.false)) c.outcomes.ensures
