-- `sound::lists_in` meets its contract: phrase by phrase, until one fails. Assumes nothing.
use Rattle.std.proofs.Common.{not}
use Rattle.lists.specs.Test.{◌and◌}
use Rattle.lists.specs.LoopLaws.{test_passed, test_failed}
use mathlib.Core.Path.{ap, ◌∙◌}
use mathlib.Core.List.{List}
use Prim.Native.Nat.{ℕ}
use Rattle.lists.specs.Test.{allb}
use Rattle.rules.specs.Sizes.{task_places}
use Rattle.task_lists.specs.TaskList.{id_fits_by}
use Rattle.checks.specs.Checks.{lists_in}
use Rattle.checks.specs.TestedLaws.{ids_same}
use Rattle.sound.proofs.lists_in.Goals as goal

pub returns-then-not-ids_fit : goal.returns-then-not-ids_fit
unfolding lists_in ◌and◌
returns-then-not-ids_fit c = rw (test_failed (c.ids_fit.ensures ∙ (ap (λ (u : List ℕ). allb task_places (id_fits_by c.args.ready.ids u c.args.tasks)) c.used_places-ready_used.ensures ∙ ids_same c.args.ready.ids c.args.ready.n c.args.tasks)) (ap not c.if-not-ids_fit.true))

pub returns : goal.returns
unfolding lists_in ◌and◌
returns c = rw (test_passed (c.ids_fit.ensures ∙ (ap (λ (u : List ℕ). allb task_places (id_fits_by c.args.ready.ids u c.args.tasks)) c.used_places-ready_used.ensures ∙ ids_same c.args.ready.ids c.args.ready.n c.args.tasks)) (ap not c.if-not-ids_fit.false)) (c.ids_fit-2.ensures ∙ (ap (λ (u : List ℕ). allb task_places (id_fits_by c.args.waiting.ids u c.args.tasks)) c.used_places-waiting_used.ensures ∙ ids_same c.args.waiting.ids c.args.waiting.n c.args.tasks))
