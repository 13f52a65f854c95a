-- `queue`: where the test passed, the message is laid at the place.
use Rattle.std.proofs.Common.{sym, ◌∙◌, arith, length}
use Rattle.moves.specs.FitsLaws.{queues}
use Rattle.moves.specs.MovesLaws.{queue_kept, queue_laid}
use Rattle.moves.proofs.queue.Goals as goal

pub returns-then-not-can_queue : goal.returns-then-not-can_queue
returns-then-not-can_queue c = sym (queue_kept _ _ _ (sym c.can_queue.ensures ∙ c.if-not-can_queue.true))

pub lay-requires : goal.lay-requires
lay-requires c =
    let a = c.args in
    let h = queues (length a.block.now) a.place (length a.message.now) (sym c.can_queue.ensures ∙ c.if-not-can_queue.false) in
    record { n_in_bounds = omega (arith, h); ws_len_bound = omega arith }

pub returns : goal.returns
returns c = c.lay.ensures ∙ queue_laid _ _ _ (queues _ _ _ (sym c.can_queue.ensures ∙ c.if-not-can_queue.false))
