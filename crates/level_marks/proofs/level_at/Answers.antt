-- `level_marks::level_at` meets its contract. Assumes nothing.
use Rattle.std.proofs.Common.{◌≡◌, length, rules}
use Rattle.task_lists.specs.TaskList.{places}
use Rattle.level_marks.proofs.Laws.{level_got}
use Rattle.level_marks.proofs.level_at.Goals as goal

pub returns : goal.returns
returns c =
    let a = c.args in
    let full : length a.levels.now ≡ places = search rules in
    rw (level_got a.levels.now a.id full) (search rules)
