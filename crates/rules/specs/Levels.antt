-- Level, chain of a mutex or queue, links, waiters and best waiter: all that follows from the tables.
use Rattle.std.specs.Prelude.{List, Bool, false, cond, ℕ, eqb, length}
use Rattle.std.proofs.Math.Option.{Option, none, some}
use Rattle.lists.specs.Test.{◌and◌}
use Rattle.lists.specs.Count.{member}
use Rattle.lists.specs.Order.{keep, first_from, before}
use Rattle.chains.specs.Chain.{walk}
use Rattle.chains.specs.Least.{least_leading}
use Rattle.rules.specs.Sizes.{levels, inheriting}
use Rattle.rules.specs.Tables.{Awaited, mutex_of, sem_of, room_in, message_in, time, awaited_kind, awaited_object, Wait, Tables, task_count, priority_of, wait_of, kind_of, owner_of, queue_owner_of}

-- the owner of what is awaited: a mutex has one, of whatever kind it is. Document 02, K1: "chains, rings, links (send's too) and demand 3 read a
-- sender's wait" on an owned queue "as one on an inheriting mutex"
unfoldable pub owner_awaited : Tables → Awaited → Option ℕ
owner_awaited t (mutex_of m) = owner_of t m
owner_awaited t (sem_of k) = none
owner_awaited t (room_in q) = queue_owner_of t q
owner_awaited t (message_in q) = none
owner_awaited t time = none

-- who is lent the level of a task that waits for it: the owner of an inheriting mutex, or of the queue that it waits to send to
unfoldable pub heir_awaited : Tables → Awaited → Option ℕ
heir_awaited t (mutex_of m) = cond (eqb (kind_of t m) inheriting) (owner_of t m) none
heir_awaited t (sem_of k) = none
heir_awaited t (room_in q) = queue_owner_of t q
heir_awaited t (message_in q) = none
heir_awaited t time = none

-- whom a wait leads to, by what is awaited
unfoldable pub of_wait : (Awaited → Option ℕ) → Option Wait → Option ℕ
of_wait f none = none
of_wait f (some w) = f w.on

-- the owner of what i waits for
unfoldable pub next : Tables → ℕ → Option ℕ
next t i = of_wait (owner_awaited t) (wait_of t i)

-- who is lent the level of i
unfoldable pub lends : Tables → ℕ → Option ℕ
lends t i = of_wait (heir_awaited t) (wait_of t i)

-- document 01's term "level": the most urgent own priority among i and all tasks whose chain of waits on inheriting mutexes leads to i
-- ("The definition follows the chain from waiter to owner as far as it goes."; LevelLaws has its recursive wording)
unfoldable pub level_in : Tables → ℕ → ℕ
level_in t = least_leading (task_count t) (lends t) (priority_of t)

-- document 01's term "chain of a mutex": "Its owner, then the owner of the mutex for which that task waits, and so on, plain mutexes
-- counted too. It ends at a task that waits for no mutex". The fuel is the number of tasks: it cuts no chain of a sound state (LevelLaws).
unfoldable pub chain_of : Tables → Awaited → List ℕ
chain_of t a = walk (task_count t) (next t) (owner_awaited t a)

-- document 01's term "links": "the tasks on this chain other than the caller", which ends before the caller
abbrev pub links_of : Tables → ℕ → Awaited → ℕ
links_of t r a = length (before r (chain_of t a))

-- a wait of r for a would close a ring: the chain of a comes to r
abbrev pub closes_ring : Tables → ℕ → Awaited → Bool
closes_ring t r a = member r (chain_of t a)

-- waits are for the same where kind and object are
unfoldable pub same_awaited : Awaited → Awaited → Bool
same_awaited a b = eqb (awaited_kind a) (awaited_kind b) and eqb (awaited_object a) (awaited_object b)

unfoldable pub wait_is_for : Option Wait → Awaited → Bool
wait_is_for none a = false
wait_is_for (some w) a = same_awaited w.on a

-- i waits for a
abbrev pub awaits : Tables → Awaited → ℕ → Bool
awaits t a i = wait_is_for (wait_of t i) a

-- who waits for a, oldest wait first
unfoldable pub waiters_of : Tables → Awaited → List ℕ
waiters_of t a = keep (awaits t a) t.tasks.waiting

-- "The best waiter is the first found going through levels 0 to 31 and, in a level, oldest wait first."
unfoldable pub best_waiter : Tables → Awaited → Option ℕ
best_waiter t a = first_from (level_in t) levels 0 (waiters_of t a)
