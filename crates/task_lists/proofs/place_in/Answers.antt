-- `task_lists::place_in` meets its contract. The loop: the place among the ids that are left, counted from the first of all, is the place sought.
use native.Mathlib.Omega.{arith}
use lib.ListN.{length-take}
use Rattle.task_lists.specs.TaskList.{first_ids}
use Rattle.task_lists.proofs.Laws.{place_hit, place_miss, place_end}
use Rattle.task_lists.proofs.place_in.Goals as goal

pub returns-then-t-key : goal.returns-then-t-key
returns-then-t-key c =
    let a = c.args in
    let l = c.loop-i in
    let s = length-take a.n a.ids.now in
    omega (arith, place_hit (first_ids a.ids.now a.n) a.keys.now a.t l.i (omega arith) (omega arith))

pub loop-i-preserved : goal.loop-i-preserved
loop-i-preserved c =
    let a = c.args in
    let l = c.loop-i in
    let s = length-take a.n a.ids.now in
    omega (arith, place_miss (first_ids a.ids.now a.n) a.keys.now a.t l.i (omega arith) (omega arith))

pub returns : goal.returns
returns c =
    let a = c.args in
    let s = length-take a.n a.ids.now in
    omega (arith, place_end (first_ids a.ids.now a.n) a.keys.now a.t c.loop-i.i (omega arith))
