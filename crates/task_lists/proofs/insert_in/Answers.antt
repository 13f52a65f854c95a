-- `task_lists::insert_in` meets its contract.
use Rattle.std.proofs.Common.{refl, ◌∙◌, take, length-take, arith, lt-ltb, le-ltb}
use Rattle.task_lists.specs.TaskList.{inserted_at, inserted}
use Rattle.task_lists.specs.TaskListLaws.{same_list, place_within}
use Rattle.task_lists.proofs.insert_in.Goals as goal

pub returns-then-n-ge-PLACES : goal.returns-then-n-ge-PLACES
unfolding inserted_at inserted
returns-then-n-ge-PLACES c = rw (le-ltb _ _ c.if-n-ge-PLACES.true)

pub open_at-requires : goal.open_at-requires
open_at-requires c =
    let a = c.args in
    let p = c.place_in-p.ensures in
    (omega (arith, place_within a.keys.now a.t (take a.used a.ids.now), length-take a.used a.ids.now), omega arith)

pub returns : goal.returns
unfolding inserted_at inserted
returns c = rw (lt-ltb _ _ c.if-n-ge-PLACES.false) (same_list _ _ (c.open_at.ensures ∙ rw c.place_in-p.ensures) refl)
