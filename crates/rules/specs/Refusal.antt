-- "Numbers that come back": for each step the rows of the table that concern it, in the table's order; the first that applies is given.
use Rattle.std.specs.Prelude.{List, [], ◌∷◌, Bool, true, false, cond, not, ℕ, ◌+◌, ◌*◌, ltb, leb, eqb, length}
use Rattle.std.proofs.Math.Option.{Option, none, some}
use Rattle.lists.specs.Test.{◌and◌, ◌or◌, someb, holds}
use Rattle.rules.specs.Sizes.{max_tasks, max_mutexes, max_semaphores, max_queues, held_words, levels, kinds, max_hold, max_ticks, forever}
use Rattle.rules.specs.Tables.{Awaited, mutex_of, sem_of, room_in, task_count, mutex_count, sem_count, queue_count, owner_of, count_of, maximum_of, width_of, queue_owner_of, messages_of, space_taken}
use Rattle.rules.specs.Levels.{links_of, closes_ring, best_waiter}
use Rattle.rules.specs.State.{State}
use Rattle.rules.specs.Sound.{is_width, is_depth, existsb}
use Rattle.rules.specs.Effect.{is_full}
use Rattle.rules.specs.Step.{Step, task, mutex, sem, start, lock, unlock, pend, post, flush, sleep, yield, hold, free, tick, level, outcome, queue, send, receive, word}

-- a refusal's number, when it is given, and the value beside it
pub record Row : Type 0 where
  pub number : ℕ
  pub when : Bool
  pub value : ℕ

infix 20 ◌when◌
abbrev pub ◌when◌ : ℕ → Bool → Row
k when b = record { number = k; when = b; value = 0 }

-- "A waiting time is 0 (don't wait), 1 to 2147483647 ticks, or 4294967295 (forever)."
abbrev pub is_waiting_time : ℕ → Bool
is_waiting_time t = leb t max_ticks or eqb t forever

-- "sleep t: waits t ticks; t is 1 to 2147483647."
abbrev pub is_sleep_time : ℕ → Bool
is_sleep_time t = ltb 0 t and leb t max_ticks

abbrev pub held : State → Bool
held s = ltb 0 s.hold

-- a step that needs a caller, with none running
abbrev pub no_caller : State → Bool
no_caller s = not (someb s.running)

-- a test of the caller, which fails where none runs
unfoldable pub of_caller : Option ℕ → (ℕ → Bool) → Bool
of_caller none p = false
of_caller (some r) p = p r

unfoldable pub links_for : State → Awaited → Option ℕ → ℕ
links_for s a none = 0
links_for s a (some r) = links_of s.tables r a

-- a lock of m meets an owner; a pend of k meets no credit; a send to q meets no room; a receive from q meets no message: the step would wait
abbrev pub taken : State → ℕ → Bool
taken s m = someb (owner_of s.tables m)

abbrev pub no_credit : State → ℕ → Bool
no_credit s k = eqb (count_of s.tables k) 0

abbrev pub no_room : State → ℕ → Bool
no_room s q = is_full s.tables q

abbrev pub no_message : State → ℕ → Bool
no_message s q = eqb (length (messages_of s.tables q)) 0

abbrev pub caller_owns : State → ℕ → Bool
caller_owns s m = of_caller s.running (holds (owner_of s.tables m))

-- document 02, K1: "9 owner sending to its own full queue"
abbrev pub caller_owns_queue : State → ℕ → Bool
caller_owns_queue s q = of_caller s.running (holds (queue_owner_of s.tables q))

-- "10 receive by another than the owner"
abbrev pub may_receive : State → ℕ → Bool
may_receive s q = not (someb (queue_owner_of s.tables q)) or caller_owns_queue s q

-- "lock whose wait would close a ring", with its links; "12 for a ring" of a send
abbrev pub ring_row : State → Bool → Awaited → Row
ring_row s waits a = record { number = 12; when = waits and of_caller s.running (λ r. closes_ring s.tables r a); value = links_for s a s.running }

abbrev pub no_such_mutex : State → ℕ → Bool
no_such_mutex s m = leb (mutex_count s.tables) m

abbrev pub no_such_sem : State → ℕ → Bool
no_such_sem s k = leb (sem_count s.tables) k

abbrev pub no_such_queue : State → ℕ → Bool
no_such_queue s q = leb (queue_count s.tables) q

abbrev pub no_such_task : State → ℕ → Bool
no_such_task s i = leb (task_count s.tables) i

-- the rows that a step begins with: of set-up only, after start only, and one that needs a caller
abbrev pub in_set_up : State → List Row → List Row
in_set_up s rows = (4 when s.started) ∷ rows

abbrev pub once_started : State → List Row → List Row
once_started s rows = (4 when not s.started) ∷ rows

abbrev pub by_caller : State → List Row → List Row
by_caller s rows = once_started s ((5 when no_caller s) ∷ rows)

unfoldable pub refusals : State → Step → List Row
refusals s (task p) = in_set_up s ((7 when leb levels p) ∷ (8 when leb max_tasks (task_count s.tables)) ∷ [])
refusals s (mutex k) = in_set_up s ((7 when leb kinds k) ∷ (8 when leb max_mutexes (mutex_count s.tables)) ∷ [])
refusals s (sem count max) = in_set_up s ((7 when eqb max 0 or ltb max count) ∷ (8 when leb max_semaphores (sem_count s.tables)) ∷ [])
refusals s start = in_set_up s []
refusals s (lock m t) = by_caller s ((6 when no_such_mutex s m) ∷ (7 when not (is_waiting_time t)) ∷ (9 when caller_owns s m)
    ∷ (3 when taken s m and eqb t 0) ∷ (11 when taken s m and held s) ∷ ring_row s (taken s m) (mutex_of m) ∷ [])
refusals s (unlock m) = by_caller s ((6 when no_such_mutex s m) ∷ (10 when not (caller_owns s m)) ∷ [])
refusals s (pend k t) = by_caller s ((6 when no_such_sem s k) ∷ (7 when not (is_waiting_time t))
    ∷ (3 when no_credit s k and eqb t 0) ∷ (11 when no_credit s k and held s) ∷ [])
refusals s (post k) = once_started s ((6 when no_such_sem s k)
    ∷ (2 when not (someb (best_waiter s.tables (sem_of k))) and eqb (count_of s.tables k) (maximum_of s.tables k)) ∷ [])
refusals s (flush k) = once_started s ((6 when no_such_sem s k) ∷ [])
refusals s (sleep t) = by_caller s ((7 when not (is_sleep_time t)) ∷ (11 when held s) ∷ [])
refusals s yield = by_caller s ((11 when held s) ∷ [])
refusals s hold = by_caller s ((13 when leb max_hold s.hold) ∷ [])
refusals s free = by_caller s ((13 when eqb s.hold 0) ∷ [])
refusals s tick = once_started s []
refusals s (level i) = (6 when no_such_task s i) ∷ []
refusals s (outcome i) = (6 when no_such_task s i) ∷ []
refusals s (queue w d o) = in_set_up s ((6 when not (existsb (task_count s.tables) o)) ∷ (7 when not (is_width w and is_depth d))
    ∷ (8 when leb max_queues (queue_count s.tables) or ltb s.tables.queues.space (space_taken s.tables + w * d)) ∷ [])
refusals s (send q t m) = by_caller s ((6 when no_such_queue s q) ∷ (7 when not (is_waiting_time t) or not (eqb (length m) (width_of s.tables q)))
    ∷ (9 when no_room s q and caller_owns_queue s q) ∷ (3 when no_room s q and eqb t 0) ∷ (11 when no_room s q and held s) ∷ ring_row s (no_room s q) (room_in q) ∷ [])
refusals s (receive q t) = by_caller s ((6 when no_such_queue s q) ∷ (7 when not (is_waiting_time t)) ∷ (10 when not (may_receive s q))
    ∷ (3 when no_message s q and eqb t 0) ∷ (11 when no_message s q and held s) ∷ [])
refusals s (word i n) = (6 when no_such_task s i) ∷ (7 when leb held_words n) ∷ []

-- the first row that applies
unfoldable pub first_row : List Row → Option Row
first_row [] = none
first_row (r ∷ rs) = cond r.when (some r) (first_row rs)

-- "Order where several apply: 14, 15, 4, 5, 6, 7, 8 (full table), 9, 10, 3, 11, 12; then 2 and 13"; 14 and 15 come before any row
abbrev pub table_order : List ℕ
table_order = 4 ∷ 5 ∷ 6 ∷ 7 ∷ 8 ∷ 9 ∷ 10 ∷ 3 ∷ 11 ∷ 12 ∷ 2 ∷ 13 ∷ []

-- the first list is a part of the second, in the second's order
unfoldable pub in_order : List ℕ → List ℕ → Bool
in_order [] l = true
in_order (x ∷ xs) [] = false
in_order (x ∷ xs) (y ∷ l) = cond (eqb x y) (in_order xs l) (in_order (x ∷ xs) l)
