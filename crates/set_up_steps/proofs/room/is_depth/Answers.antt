-- `room::is_depth` meets its contract.
use borrow.Author.Rules.{rules}
use Rattle.lists.specs.Test.{◌and◌}
use Rattle.rules.specs.Sound.{is_depth}
use Rattle.set_up_steps.proofs.room.is_depth.Goals as goal

pub returns-then-depth-gt0-clause-answer : goal.returns-then-depth-gt0-clause-answer
unfolding is_depth ◌and◌
returns-then-depth-gt0-clause-answer c = search rules

pub returns-else-depth-gt0-clause-answer : goal.returns-else-depth-gt0-clause-answer
unfolding is_depth ◌and◌
returns-else-depth-gt0-clause-answer c = search rules
