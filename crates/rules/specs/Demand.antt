-- Demand 3, as a statement over any list of calls from any sound state; DemandLaws proves it. The quotes at `MostUrgent`, `no_ring`, `runs` and
-- `urgent` are the demand's own words, the others document 01's.
use Rattle.std.specs.Prelude.{◌≡◌, List, [], ◌∷◌, true, ◌⊎◌, ℕ, ◌≤◌, ◌<◌, length}
use Rattle.std.proofs.Math.Option.{Option, none, some}
use Rattle.rules.specs.Tables.{wait_of, owner_of}
use Rattle.rules.specs.State.{State, fresh}
use Rattle.rules.specs.Step.{Step, level}
use Rattle.rules.specs.Answer.{Answer}
use Rattle.rules.specs.Log.{log_line, Call, call}
use Rattle.rules.specs.History.{Event, Told, tasks_made, own_priority, told_next, told_lends, told_from}

-- "A task's chain of waits on inheriting mutexes leads to the owner of the inheriting mutex for which it waits, and to all tasks to which
-- that owner's such chain leads."; document 02, K1: "demand 3 read[s] a sender's wait" on an owned queue "as one on an inheriting mutex"
pub data Leads (h : Told) : ℕ → ℕ → Type 0 where
  to_owner : {i j : ℕ} → told_lends h i ≡ some j → Leads h i j
  through : {i j k : ℕ} → told_lends h i ≡ some j → Leads h j k → Leads h i k

-- "Waits form a ring if, in some row of one or more tasks, each waits for a mutex that the next owns, and the last for one that the first
-- owns, mutexes of every kind counted.": the row x, l, where the last waits for one that y owns
abbrev pub WaitRow : Told → ℕ → List ℕ → ℕ → Type 0
WaitRow h x [] y = told_next h x ≡ some y
WaitRow h x (z ∷ l) y = (told_next h x ≡ some z) × WaitRow h z l y

-- "is ready if it neither runs nor waits"
pub record Ready (h : Told) (i : ℕ) : Type 0 where
  pub exists : i < tasks_made h
  pub not_running : h.runs ≡ some i → ⊥
  pub not_waiting : h.wait i ≡ none

-- r runs: a task that was made and doesn't wait
pub record Runner (h : Told) (r : ℕ) : Type 0 where
  pub made : r < tasks_made h
  pub awake : h.wait r ≡ none
  pub named : h.runs ≡ some r

-- v is "the most urgent own priority among itself and all tasks whose chain of waits on inheriting mutexes leads to it"
pub record MostUrgent (h : Told) (i v : ℕ) : Type 0 where
  pub own : v ≤ own_priority h i
  pub low : (j : ℕ) → j < tasks_made h → Leads h j i → v ≤ own_priority h j
  pub one : (v ≡ own_priority h i) ⊎ ((j : ℕ) × (j < tasks_made h) × Leads h j i × (v ≡ own_priority h j))

abbrev pub level_call : ℕ → Option ℕ → Call
level_call i room = record { made = level i; room = room }

-- the log line of an answer has room, where one is asked for
abbrev pub HasRoom : Option ℕ → Answer → Type 0
HasRoom none a = Unit
HasRoom (some room) a = length (log_line a) ≤ room

-- what holds where h is told, and `answer` is what a further call is answered
pub record Demand (h : Told) (answer : Call → Answer) : Type 0 where
  -- "After such a list `level` is accepted for it (its log line, where one is asked for, having room), and that value is its level."
  pub levels : (i : ℕ) → i < tasks_made h → (room : Option ℕ) → HasRoom room (answer (level_call i none))
      → ((answer (level_call i room)).number ≡ 0) × MostUrgent h i (answer (level_call i room)).value
  -- "no waits form a ring"
  pub no_ring : (x : ℕ) (l : List ℕ) → WaitRow h x l x → ⊥
  -- "a task runs whenever one is ready"
  pub runs : (i : ℕ) → Ready h i → (r : ℕ) × Runner h r
  -- "unless scheduling is held, no ready task is more urgent than the running one"
  pub urgent : h.depth ≡ 0 → (i r : ℕ) → Ready h i → h.runs ≡ some r
      → Runner h r × ((answer (level_call r none)).value ≤ (answer (level_call i none)).value)

-- the events of a list of calls, each from its answer, and the state handed on at its end
abbrev pub event_of : Step → Answer → Event
event_of x a = record { made = x; number = a.number; run = a.run }

unfoldable pub events : State → List Call → List Event
events s [] = []
events s (c ∷ cs) = event_of c.made (call s c) ∷ events (call s c).state cs

unfoldable pub after : State → List Call → State
after s [] = s
after s (c ∷ cs) = after (call s c).state cs

-- what a state tells before the first step: a wait with n ticks left stands as one that begins now with time n
unfoldable pub told_in : State → Told
told_in s = record {
  priorities = s.tables.tasks.priorities;
  kinds = s.tables.mutexes.kinds;
  queue_owners = s.tables.queues.owners;
  owner = owner_of s.tables;
  wait = wait_of s.tables;
  ticks = λ i. 0;
  order = s.tables.tasks.waiting;
  runs = s.running;
  depth = s.hold;
  started = s.started;
}

unfoldable pub told : State → List Event → Told
told s es = told_from (told_in s) es

-- the theorem, of every sound state s: over every list of calls from it, where it is started or the list has an accepted start
abbrev pub Demand3From : State → Type 0
Demand3From s = (cs : List Call) → (told s (events s cs)).started ≡ true → Demand (told s (events s cs)) (call (after s cs))

-- and from a fresh state, whatever block is lent
abbrev pub Demand3 : Type 0
Demand3 = (space : ℕ) → Demand3From (fresh space)
