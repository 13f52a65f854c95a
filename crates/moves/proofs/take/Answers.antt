-- `take`: where the test passed, the message of the block and zeros are laid over the task's words.
use Rattle.std.proofs.Common.{sym, ◌∙◌, arith, length}
use Rattle.moves.specs.FitsLaws.{takes}
use Rattle.moves.specs.MovesLaws.{part_short, take_kept, take_laid}
use Rattle.moves.proofs.take.Goals as goal

pub returns-then-not-can_take : goal.returns-then-not-can_take
returns-then-not-can_take c = sym (take_kept _ _ _ _ _ (sym c.can_take.ensures ∙ c.if-not-can_take.true))

pub slice_bounds-lay-end : goal.slice_bounds-lay-end
slice_bounds-lay-end c =
    let a = c.args in
    let h = takes (length a.words.now) (length a.block.now) a.place a.width a.task (sym c.can_take.ensures ∙ c.if-not-can_take.false) in
    omega (arith, h.within)

pub lay-requires : goal.lay-requires
lay-requires c =
    let a = c.args in
    let h = takes (length a.words.now) (length a.block.now) a.place a.width a.task (sym c.can_take.ensures ∙ c.if-not-can_take.false) in
    record {
      n_in_bounds = omega (arith, h.room.place);
      ws_len_bound = omega (arith, h.room.size, part_short a.block.now a.place a.width);
    }

pub returns : goal.returns
returns c = c.lay.ensures ∙ take_laid _ _ _ _ _ (takes _ _ _ _ _ (sym c.can_take.ensures ∙ c.if-not-can_take.false))
