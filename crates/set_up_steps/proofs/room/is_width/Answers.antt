-- `room::is_width` meets its contract.
use borrow.Author.Rules.{rules}
use Rattle.lists.specs.Test.{◌or◌}
use Rattle.rules.specs.Sound.{is_width}
use Rattle.set_up_steps.proofs.room.is_width.Goals as goal

pub returns-in_default-clause-answer : goal.returns-in_default-clause-answer
unfolding is_width ◌or◌
returns-in_default-clause-answer c = search rules

pub returns-in_default-2-clause-answer : goal.returns-in_default-2-clause-answer
unfolding is_width ◌or◌
returns-in_default-2-clause-answer c = search rules

pub returns-in-1-clause-answer : goal.returns-in-1-clause-answer
unfolding is_width ◌or◌
returns-in-1-clause-answer c = search rules

pub returns-in-1-2-clause-answer : goal.returns-in-1-2-clause-answer
unfolding is_width ◌or◌
returns-in-1-2-clause-answer c = search rules
