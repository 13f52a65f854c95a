-- `task_lists::keep_where` meets its contract. The loop: the ids written and their count are the list of those of the items passed that pass the test.
use Rattle.std.proofs.Common.{◌≡◌, ◌≤◌, ℕ, Bool, take}
use Rattle.lists.specs.Order.{keep}
use Rattle.task_lists.specs.TaskList.{items, task_list_of}
use Rattle.task_lists.proofs.keep_where.Given as goal

abbrev pub invariant-loop-i : goal.invariant-loop-i
invariant-loop-i g l = record {
  few : l.k ≤ l.i;
  list : (p : ℕ → Bool) → ((x : ℕ) (b : Bool) → goal.F-post g l.test x b → b ≡ p x) → record { ids = l.ids; n = l.k } ≡ task_list_of (keep p (take l.i (items l.q)));
}
