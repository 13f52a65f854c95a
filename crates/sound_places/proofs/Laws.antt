-- Where nothing is owned the chain of every owner ends.
use mathlib.Core.Path.{◌≡◌, sym}
use mathlib.Core.List.{List}
use mathlib.Core.Bool.{Bool, true}
use Prim.Native.Nat.{ℕ}
use lib.ListN.{get_or}
use borrow.Author.Tests.{eqb-true}
use Rattle.lists.specs.Test.{allb}
use Rattle.lists.specs.TestLaws.{all_true, true_all}
use Rattle.chains.specs.Chain.{endsb}
use Rattle.chains.specs.ChainLaws.{ends_none}
use Rattle.rules.specs.Sizes.{task_places, max_mutexes}
use Rattle.task_lists.specs.TaskList.{no_id}
use Rattle.walks.specs.Walk.{task_at, next_in}
use Rattle.checks.specs.Checks.{free_at}

-- the chain from the j-th of a table's owners ends
abbrev pub ends_from : List ℕ → List ℕ → ℕ → Bool
ends_from next owners j = endsb task_places (next_in next) (task_at (get_or owners j 0))

pub free_ends : (next owners : List ℕ) → allb max_mutexes (free_at owners) ≡ true → true ≡ allb max_mutexes (ends_from next owners)
free_ends next owners e = sym (true_all max_mutexes (ends_from next owners) (λ j h.
    rw (eqb-true (get_or owners j 0) no_id (all_true max_mutexes (free_at owners) e j h)) (ends_none (next_in next) task_places)))
