-- Whom a wait leads to, read at the object's place whatever the kind of wait is.
use mathlib.Core.Path.{◌≡◌, refl, sym, ◌∙◌}
use mathlib.Core.List.{List}
use mathlib.Core.Bool.{true, cond}
use Prim.Native.Nat.{ℕ, ◌%◌}
use native.Mathlib.Omega.{arith}
use native.Mathlib.Decide.{dec_lt}
use native.Mathlib.Nat.{mod-eq_of_lt}
use lib.Dec.{ltb, eqb}
use lib.ListN.{length, get_or, replicate, get_or-replicate, length-replicate, get_or-eq_default}
use borrow.Author.Tests.{lt-ltb, le-ltb}
use Rattle.lists.specs.Test.{allb}
use Rattle.lists.specs.TestLaws.{all_true}
use Rattle.lists.specs.Table.{filled}
use Rattle.lists.specs.TableLaws.{read_any, filled_is}
use Rattle.rules.specs.Sizes.{task_places, max_mutexes, max_queues, on_mutex, on_send}
use Rattle.task_lists.specs.TaskList.{no_id}
use Rattle.record.specs.Reads.{led_by, leads_nowhere_at}
use Rattle.record.specs.ReadLaws.{led_none}

-- a table of n places read at a number, and none where there is no such place
at_place : (l : List ℕ) (n object : ℕ) → length l ≡ n → cond (ltb object n) (get_or l (object % n) 0) no_id ≡ get_or l object no_id
at_place l n object g = elim (dec_lt object n) [
  | yes p ↦ (let q : object % n ≡ object = mod-eq_of_lt p in rw (lt-ltb object n p, q, read_any l object 0 no_id (omega (arith, g))) refl)
  | no p ↦ rw (le-ltb object n (omega arith), get_or-eq_default l no_id {n = object} (omega (arith, g))) refl
]

pub led_same : (mutexes queues : List ℕ) (kind object : ℕ) → length mutexes ≡ max_mutexes → length queues ≡ max_queues
    → cond (eqb kind on_mutex) (cond (ltb object max_mutexes) (get_or mutexes (object % max_mutexes) 0) no_id) (cond (eqb kind on_send) (cond (ltb object max_queues) (get_or queues (object % max_queues) 0) no_id) no_id) ≡ led_by mutexes queues kind object
unfolding led_by
led_same mutexes queues kind object g h = rw (at_place mutexes max_mutexes object g, at_place queues max_queues object h) refl

-- where every wait leads to nobody, so does every task
pub nobody_led : (mutexes queues waits objects : List ℕ) → allb task_places (leads_nowhere_at waits) ≡ true → replicate task_places no_id ≡ filled task_places (λ i. led_by mutexes queues (get_or waits i 0) (get_or objects i 0))
nobody_led mutexes queues waits objects e = sym (filled_is task_places _ no_id (replicate task_places no_id) (length-replicate task_places no_id)
    (λ i h. led_none mutexes queues waits objects i (all_true task_places (leads_nowhere_at waits) e i h) ∙ sym (get_or-replicate task_places i no_id no_id h)))
