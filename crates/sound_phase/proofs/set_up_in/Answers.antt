-- `sound_phase::set_up_in` meets its contract: phrase by phrase, until one fails. Assumes nothing.
use Rattle.std.proofs.Common.{not}
use mathlib.Core.Path.{ap, ◌∙◌}
use mathlib.Core.List.{List}
use Prim.Native.Nat.{ℕ}
use Rattle.lists.specs.Test.{◌and◌, allb}
use Rattle.lists.specs.LoopLaws.{test_passed, test_failed}
use Rattle.rules.specs.Sizes.{task_places}
use Rattle.checks.specs.Checks.{unused_by, set_up_in}
use Rattle.checks.specs.TestedLaws.{unused_same}
use Rattle.sound_phase.proofs.set_up_in.Goals as goal

pub returns-then-not-all_free : goal.returns-then-not-all_free
unfolding set_up_in ◌and◌
returns-then-not-all_free c = rw (test_failed c.all_free.ensures (ap not c.if-not-all_free.true))

pub returns-then-not-unused : goal.returns-then-not-unused
unfolding set_up_in ◌and◌
returns-then-not-unused c = rw (test_passed c.all_free.ensures (ap not c.if-not-all_free.false), test_failed (c.unused.ensures ∙ (ap (λ (u : List ℕ). allb task_places (unused_by c.args.outcomes u)) c.used_places-none.ensures ∙ unused_same c.args.outcomes 0)) (ap not c.if-not-unused.true))

pub returns-then-not-all_empty : goal.returns-then-not-all_empty
unfolding set_up_in ◌and◌
returns-then-not-all_empty c = rw (test_passed c.all_free.ensures (ap not c.if-not-all_free.false), test_passed (c.unused.ensures ∙ (ap (λ (u : List ℕ). allb task_places (unused_by c.args.outcomes u)) c.used_places-none.ensures ∙ unused_same c.args.outcomes 0)) (ap not c.if-not-unused.false), test_failed c.all_empty.ensures (ap not c.if-not-all_empty.true))

pub returns-then-not-words_zero : goal.returns-then-not-words_zero
unfolding set_up_in ◌and◌
returns-then-not-words_zero c = rw (test_passed c.all_free.ensures (ap not c.if-not-all_free.false), test_passed (c.unused.ensures ∙ (ap (λ (u : List ℕ). allb task_places (unused_by c.args.outcomes u)) c.used_places-none.ensures ∙ unused_same c.args.outcomes 0)) (ap not c.if-not-unused.false), test_passed c.all_empty.ensures (ap not c.if-not-all_empty.false), test_failed c.words_zero.ensures (ap not c.if-not-words_zero.true))

pub returns : goal.returns
unfolding set_up_in ◌and◌
returns c = rw (test_passed c.all_free.ensures (ap not c.if-not-all_free.false), test_passed (c.unused.ensures ∙ (ap (λ (u : List ℕ). allb task_places (unused_by c.args.outcomes u)) c.used_places-none.ensures ∙ unused_same c.args.outcomes 0)) (ap not c.if-not-unused.false), test_passed c.all_empty.ensures (ap not c.if-not-all_empty.false), test_passed c.words_zero.ensures (ap not c.if-not-words_zero.false)) c.ties_by_id.ensures
