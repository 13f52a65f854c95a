-- `room::refusal` meets its contract.
use borrow.Author.Rules.{rules}
use Rattle.lists.specs.Test.{◌and◌}
use Rattle.record.specs.Refused.{refusal_code, refusal_number}
use Rattle.set_up_steps.proofs.room.refusal.Goals as goal
use Rattle.set_up_steps.proofs.room.refusal.Goals.{then-not-is_width-via-then-not-is_width, then-not-is_width-via-else-not-is_width+then-not-is_depth}

pub returns-then-not-is_width-clause-number : goal.returns-then-not-is_width-clause-number
unfolding ◌and◌ refusal_code refusal_number
returns-then-not-is_width-clause-number c = elim c.then-not-is_width.branch [ then-not-is_width-via-then-not-is_width w ↦ search rules | then-not-is_width-via-else-not-is_width+then-not-is_depth w ↦ search rules ]

pub returns-then-x-ge-MAX_QUEUES-clause-number : goal.returns-then-x-ge-MAX_QUEUES-clause-number
unfolding ◌and◌ refusal_code refusal_number
returns-then-x-ge-MAX_QUEUES-clause-number c = search rules

pub returns-then-space-end-clause-number : goal.returns-then-space-end-clause-number
unfolding ◌and◌ refusal_code refusal_number
returns-then-space-end-clause-number c = search rules

pub returns-clause-number : goal.returns-clause-number
unfolding ◌and◌ refusal_code refusal_number
returns-clause-number c = search rules
