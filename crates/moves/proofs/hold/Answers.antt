-- `hold`: where the test passed, the message and zeros are laid over the task's words.
use Rattle.std.proofs.Common.{sym, ◌∙◌, arith, length}
use Rattle.moves.specs.FitsLaws.{holds}
use Rattle.moves.specs.MovesLaws.{hold_kept, hold_fits}
use Rattle.moves.proofs.hold.Goals as goal

pub returns-then-not-can_hold : goal.returns-then-not-can_hold
returns-then-not-can_hold c = sym (hold_kept _ _ _ (sym c.can_hold.ensures ∙ c.if-not-can_hold.true))

pub lay-requires : goal.lay-requires
lay-requires c =
    let a = c.args in
    let h = holds (length a.words.now) a.task (length a.message.now) (sym c.can_hold.ensures ∙ c.if-not-can_hold.false) in
    record { n_in_bounds = omega (arith, h); ws_len_bound = omega (arith, h) }

pub returns : goal.returns
returns c = c.lay.ensures ∙ sym (hold_fits _ _ _ (holds _ _ _ (sym c.can_hold.ensures ∙ c.if-not-can_hold.false)))
