-- `sound_places::table_ends` meets its contract. Assumes nothing.
use mathlib.Core.Path.{sym, ◌∙◌}
use Rattle.sound_places.proofs.Laws.{free_ends}
use Rattle.sound_places.proofs.table_ends.Goals as goal

pub returns-then-all_free : goal.returns-then-all_free
returns-then-all_free c =
    let a = c.args in
    c.if-all_free.true ∙ free_ends a.next.now a.owner.now (sym c.all_free.ensures ∙ c.if-all_free.true)
