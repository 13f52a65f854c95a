-- `lay`: the words copied, and zeros behind them.
use Rattle.std.proofs.Common.{rules}
use Rattle.std.proofs.lemmas.Slice.{overwrites}
use Rattle.moves.proofs.LayLaws.{laid_parts}
use Rattle.moves.proofs.lay.Goals as goal

pub returns : goal.returns
returns c =
    let a = c.args in
    let r = c.requires in
    rw c.copy_from_slice.ensures.after
    (laid_parts a.dst.now a.ws.now c.fill.new.self a.at a.n _ r.n_in_bounds r.ws_len_bound (c.fill.ensures.after (search rules)) (search (rules, overwrites)))
