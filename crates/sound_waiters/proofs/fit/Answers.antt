-- `sound_waiters::fit` meets its contract. Assumes nothing.
use mathlib.Core.Path.{sym, ◌∙◌}
use Rattle.sound_waiters.proofs.Laws.{none_waits_fit}
use Rattle.sound_waiters.proofs.fit.Goals as goal

pub returns-then-none_waits : goal.returns-then-none_waits
returns-then-none_waits c =
    let a = c.args in
    c.if-none_waits.true ∙ none_waits_fit a.wait.now a.object.now a.x a.words.now (sym c.none_waits.ensures ∙ c.if-none_waits.true)
