-- `level_marks::marks` meets its contract. The loop: the word marks the levels of the tasks passed.
use mathlib.Core.Path.{◌≡◌, sym, ◌∙◌}
use Prim.Native.Nat.{◌<◌}
use native.Mathlib.Omega.{arith}
use lib.ListN.{length, get_or, take}
use lib.Seq.{take-length}
use Rattle.task_lists.specs.TaskList.{items}
use Rattle.task_lists.specs.ItemLaws.{items_take}
use Rattle.level_marks.specs.Marks.{level_at}
use Rattle.level_marks.specs.MarkLaws.{marks_nobody, marks_more}
use Rattle.level_marks.proofs.marks.Goals as goal

pub loop-i-init : goal.loop-i-init
loop-i-init c = sym (marks_nobody _)

pub loop-i-preserved : goal.loop-i-preserved
loop-i-preserved c =
    let a = c.args in
    let l = c.loop-i in
    let h : l.i < length (items a.ready) = omega arith in
    let level = level_at a.levels in
    let x = get_or a.ready.ids l.i 0 in
    rw (l.invariant, c.mark-word.ensures, c.level_at.ensures, items_take a.ready l.i h) (marks_more level (take l.i (items a.ready)) x)

pub returns : goal.returns
returns c =
    let q = c.args.ready in
    let e : c.loop-i.i ≡ length (items q) = omega arith in
    c.loop-i.invariant ∙ rw (e, take-length (items q))
