-- `swap`: where the test passed, the message of the block is laid over the task's words, and then the sender's words over the message.
use Rattle.std.proofs.Common.{sym, ◌∙◌, arith, length, ◌*◌}
use Rattle.moves.specs.FitsLaws.{swaps}
use Rattle.moves.specs.MovesLaws.{part_short, swap_kept, swap_words_laid, sender_fits, swap_block_laid}
use Rattle.moves.proofs.swap.Goals as goal

pub returns-then-not-can_swap : goal.returns-then-not-can_swap
returns-then-not-can_swap c =
    let a = c.args in
    let k = swap_kept a.words.now a.block.now a.place a.width a.task a.sender (sym c.can_swap.ensures ∙ c.if-not-can_swap.true) in
    record { held = sym k.0; memory = sym k.1 }

pub slice_bounds-lay-end : goal.slice_bounds-lay-end
slice_bounds-lay-end c =
    let a = c.args in
    let h = swaps (length a.words.now) (length a.block.now) a.place a.width a.task a.sender (sym c.can_swap.ensures ∙ c.if-not-can_swap.false) in
    omega (arith, h.taken.within)

pub lay-requires : goal.lay-requires
lay-requires c =
    let a = c.args in
    let h = swaps (length a.words.now) (length a.block.now) a.place a.width a.task a.sender (sym c.can_swap.ensures ∙ c.if-not-can_swap.false) in
    record {
      n_in_bounds = omega (arith, h.taken.room.place);
      ws_len_bound = omega (arith, h.taken.room.size, part_short a.block.now a.place a.width);
    }

pub slice_bounds-lay-end-2 : goal.slice_bounds-lay-end-2
slice_bounds-lay-end-2 c =
    let a = c.args in
    let h = swaps (length a.words.now) (length a.block.now) a.place a.width a.task a.sender (sym c.can_swap.ensures ∙ c.if-not-can_swap.false) in
    omega (arith, sender_fits a.words.now a.block.now a.place a.width a.task a.sender h _ c.lay.ensures)

pub lay-requires-2 : goal.lay-requires-2
lay-requires-2 c =
    let a = c.args in
    let h = swaps (length a.words.now) (length a.block.now) a.place a.width a.task a.sender (sym c.can_swap.ensures ∙ c.if-not-can_swap.false) in
    record { n_in_bounds = omega (arith, h.taken.within); ws_len_bound = part_short c.lay.new.dst (8 * a.sender) a.width }

pub returns : goal.returns
returns c =
    let a = c.args in
    let h = swaps (length a.words.now) (length a.block.now) a.place a.width a.task a.sender (sym c.can_swap.ensures ∙ c.if-not-can_swap.false) in
    record {
      held = c.lay.ensures ∙ swap_words_laid _ _ _ _ _ _ h;
      memory = c.lay-2.ensures ∙ swap_block_laid _ _ _ _ _ _ h _ c.lay.ensures;
    }
