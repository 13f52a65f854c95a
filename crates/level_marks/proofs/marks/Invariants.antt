-- `level_marks::marks` meets its contract. The loop: the word marks the levels of the tasks passed.
use mathlib.Core.Path.{◌≡◌}
use lib.ListN.{take}
use Rattle.task_lists.specs.TaskList.{items}
use Rattle.level_marks.specs.Marks.{marks_in}
use Rattle.level_marks.proofs.marks.Given as goal

abbrev pub invariant-loop-i : goal.invariant-loop-i
invariant-loop-i l = l.word ≡ marks_in l.levels (take l.i (items l.ready))
