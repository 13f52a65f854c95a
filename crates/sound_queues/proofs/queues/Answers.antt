-- `sound_queues::queues` meets its contract: column by column where no queue is made. Assumes nothing.
use mathlib.Core.Path.{◌∙◌}
use Rattle.sound_queues.proofs.Laws.{none_made_fits}
use Rattle.sound_queues.proofs.queues.Goals as goal

pub returns-then-x-eq0 : goal.returns-then-x-eq0
returns-then-x-eq0 c = let a = c.args in c.none_made.ensures ∙ none_made_fits a.x a.tasks c.if-x-eq0.true
