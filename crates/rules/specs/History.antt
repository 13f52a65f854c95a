-- The words of demand 3, told by what was told before and by events: none of them looks at a state, nor is built from the rules' effects.
use Rattle.std.specs.Prelude.{List, [], ◌∷◌, ◌++◌, Bool, true, false, cond, not, ℕ, ◌+◌, ◌-◌, leb, eqb, length, get_or}
use Rattle.std.proofs.Math.Option.{Option, none, some}
use Rattle.lists.specs.Test.{holds}
use Rattle.lists.specs.Order.{keep, least_first}
use Rattle.chains.specs.Least.{least_leading}
use Rattle.rules.specs.Sizes.{inheriting}
use Rattle.rules.specs.Tables.{Awaited, mutex_of, sem_of, room_in, message_in, time, Wait, wait_for}
use Rattle.rules.specs.Levels.{of_wait, wait_is_for}
use Rattle.rules.specs.Step.{Step, task, mutex, sem, start, lock, unlock, pend, post, flush, sleep, yield, hold, free, tick, level, outcome, queue, send, receive, word}
use Rattle.rules.specs.Refusal.{of_caller}

-- an event: the step, the answer's number, and the task to run
pub record Event : Type 0 where
  pub made : Step
  pub number : ℕ
  pub run : Option ℕ

-- what a state and the events after it tell
pub record Told : Type 0 where
  -- "A task's own priority is the one it was made with."
  pub priorities : List ℕ
  -- each mutex's kind is the one it was made with
  pub kinds : List ℕ
  -- each queue's owner, or none, is the one it was made with
  pub queue_owners : List (Option ℕ)
  -- "It owns a mutex from the lock or unlock that gives it the mutex until its own accepted unlock of it."
  pub owner : ℕ → Option ℕ
  -- "It waits from a step of its own answered 1 until a step ends that wait.": the wait as it began
  pub wait : ℕ → Option Wait
  -- the accepted ticks since it began, where there is one
  pub ticks : ℕ → ℕ
  -- who waits, in the order in which their waits began
  pub order : List ℕ
  -- "It runs while the rules name it as the task to run"
  pub runs : Option ℕ
  -- accepted holds less accepted frees: "Scheduling is held while hold depth is above 0."
  pub depth : ℕ
  -- the state was started, or an accepted start is among the events
  pub started : Bool

-- how many tasks were made
abbrev pub tasks_made : Told → ℕ
tasks_made h = length h.priorities

abbrev pub own_priority : Told → ℕ → ℕ
own_priority h i = get_or h.priorities i 0

-- the owner of what is awaited, and who is lent the level of a task that waits for it
unfoldable pub told_owner : Told → Awaited → Option ℕ
told_owner h (mutex_of m) = h.owner m
told_owner h (sem_of k) = none
told_owner h (room_in q) = get_or h.queue_owners q none
told_owner h (message_in q) = none
told_owner h time = none

unfoldable pub told_heir : Told → Awaited → Option ℕ
told_heir h (mutex_of m) = cond (eqb (get_or h.kinds m 0) inheriting) (h.owner m) none
told_heir h (sem_of k) = none
told_heir h (room_in q) = get_or h.queue_owners q none
told_heir h (message_in q) = none
told_heir h time = none

-- the owner of what i waits for, and who is lent the level of i
unfoldable pub told_next : Told → ℕ → Option ℕ
told_next h i = of_wait (told_owner h) (h.wait i)

unfoldable pub told_lends : Told → ℕ → Option ℕ
told_lends h i = of_wait (told_heir h) (h.wait i)

-- the level as the history defines it
unfoldable pub told_level : Told → ℕ → ℕ
told_level h = least_leading (tasks_made h) (told_lends h) (own_priority h)

-- the best waiter: least level as the history defines it, oldest wait first
unfoldable pub told_best : Told → Awaited → Option ℕ
told_best h a = least_first (told_level h) (keep (λ i. wait_is_for (h.wait i) a) h.order)

-- f, but x at k
abbrev pub at : {A : Type 0} → ℕ → A → (ℕ → A) → ℕ → A
at k x f i = cond (eqb i k) x (f i)

-- setters: what was made; what stands beside the tables; who owns and who waits
abbrev pub told_made : Told → List ℕ → List ℕ → List (Option ℕ) → Told
told_made h p k q = record { priorities = p; kinds = k; queue_owners = q; owner = h.owner; wait = h.wait; ticks = h.ticks; order = h.order; runs = h.runs; depth = h.depth; started = h.started }

abbrev pub told_beside : Told → Option ℕ → ℕ → Bool → Told
told_beside h r d b = record { priorities = h.priorities; kinds = h.kinds; queue_owners = h.queue_owners; owner = h.owner; wait = h.wait; ticks = h.ticks; order = h.order; runs = r; depth = d; started = b }

abbrev pub told_held : Told → (ℕ → Option ℕ) → (ℕ → Option Wait) → (ℕ → ℕ) → List ℕ → Told
told_held h o w n l = record { priorities = h.priorities; kinds = h.kinds; queue_owners = h.queue_owners; owner = o; wait = w; ticks = n; order = l; runs = h.runs; depth = h.depth; started = h.started }

abbrev pub now_owned : Told → ℕ → Option ℕ → Told
now_owned h m o = told_held h (at m o h.owner) h.wait h.ticks h.order

-- the task that ran begins to wait
unfoldable pub begins : Told → Awaited → ℕ → Option ℕ → Told
begins h a t none = h
begins h a t (some r) = told_held h h.owner (at r (some (wait_for a t)) h.wait) (at r 0 h.ticks) (h.order ++ (r ∷ []))

-- some waits end
unfoldable pub ends_where : Told → (ℕ → Bool) → Told
ends_where h p = told_held h h.owner (λ i. cond (p i) none (h.wait i)) h.ticks (keep (λ i. not (p i)) h.order)

unfoldable pub ends_of : Told → Option ℕ → Told
ends_of h none = h
ends_of h (some w) = ends_where h (eqb w)

-- "Each wait begun with time t ends at the t-th tick after it": n are the ticks before this one
unfoldable pub time_up : Option Wait → ℕ → Bool
time_up none n = false
time_up (some w) n = holds w.left (n + 1)

unfoldable pub ticked : Told → Told
ticked h = ends_where (told_held h h.owner h.wait (λ i. h.ticks i + 1) h.order) (λ i. time_up (h.wait i) (h.ticks i))

-- the task that ran owns m: only "its own accepted unlock" ends its ownership
abbrev pub runner_owns : Told → ℕ → Bool
runner_owns h m = of_caller h.runs (holds (h.owner m))

-- m goes to the best waiter, whose wait ends, or to nobody
abbrev pub hands_over : Told → ℕ → Option ℕ → Told
hands_over h m w = now_owned (ends_of h w) m w

-- what an accepted step tells, by its answer's number
unfoldable pub tells : Told → Step → ℕ → Told
tells h (task p) k = told_made h (h.priorities ++ (p ∷ [])) h.kinds h.queue_owners
tells h (mutex q) k = told_made h h.priorities (h.kinds ++ (q ∷ [])) h.queue_owners
tells h (sem count max) k = h
tells h start k = told_beside h h.runs h.depth true
tells h (lock m t) k = cond (eqb k 1) (begins h (mutex_of m) t h.runs) (now_owned h m h.runs)
tells h (unlock m) k = cond (runner_owns h m) (hands_over h m (told_best h (mutex_of m))) h
tells h (pend j t) k = cond (eqb k 1) (begins h (sem_of j) t h.runs) h
tells h (post j) k = ends_of h (told_best h (sem_of j))
tells h (flush j) k = ends_where h (λ i. wait_is_for (h.wait i) (sem_of j))
tells h (sleep t) k = cond (eqb k 1) (begins h time t h.runs) h
tells h yield k = h
tells h hold k = told_beside h h.runs (h.depth + 1) h.started
tells h free k = told_beside h h.runs (h.depth - 1) h.started
tells h tick k = ticked h
tells h (level i) k = h
tells h (outcome i) k = h
tells h (queue w d o) k = told_made h h.priorities h.kinds (h.queue_owners ++ (o ∷ []))
tells h (send q t m) k = cond (eqb k 1) (begins h (room_in q) t h.runs) (ends_of h (told_best h (message_in q)))
tells h (receive q t) k = cond (eqb k 1) (begins h (message_in q) t h.runs) (ends_of h (told_best h (room_in q)))
tells h (word i n) k = h

abbrev pub now_runs : Told → Option ℕ → Told
now_runs h r = told_beside h r h.depth h.started

-- "A step answered 0 or 1 is accepted; any other is refused"
unfoldable pub observe : Told → Event → Told
observe h e = now_runs (cond (leb e.number 1) (tells h e.made e.number) h) e.run

-- what is told after more events, the first one first
unfoldable pub told_from : Told → List Event → Told
told_from h [] = h
told_from h (e ∷ es) = told_from (observe h e) es
