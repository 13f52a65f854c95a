-- `sound_places::owners_end` meets its contract: table by table, until one fails. Assumes nothing.
use Rattle.std.proofs.Common.{sym, ◌∙◌}
use Rattle.lists.specs.OperatorLaws.{and_on, and_off}
use Rattle.sound_places.proofs.owners_end.Goals as goal

pub returns-then-table_ends : goal.returns-then-table_ends
returns-then-table_ends c =
    c.table_ends-then-table_ends.ensures ∙ sym (and_on _ _ (sym c.table_ends.ensures ∙ c.if-table_ends.true))

pub returns-else-table_ends : goal.returns-else-table_ends
returns-else-table_ends c =
    c.table_ends.ensures ∙ sym (and_off _ _ (sym c.table_ends.ensures ∙ c.if-table_ends.false))
