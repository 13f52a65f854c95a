-- The invariant as a record of named propositions, one for each phrase of "Sound state". SoundLaws proves the test true exactly where it holds.
use Rattle.std.specs.Prelude.{◌≡◌, List, [], true, false, ◌⊎◌, ℕ, ◌+◌, ◌≤◌, ◌<◌, length, get_or}
use Rattle.std.proofs.Math.Option.{Option, none, some}
use Rattle.lists.specs.Count.{occ, below, opt}
use Rattle.lists.specs.Order.{Asc, Ties}
use Rattle.chains.specs.Chain.{Ends}
use Rattle.rules.specs.Sizes.{max_tasks, max_mutexes, max_semaphores, max_queues, max_depth, held_words, levels, kinds, word_size, max_hold, max_ticks, granted, pending, timed_out, flushed}
use Rattle.rules.specs.Tables.{Awaited, mutex_of, sem_of, room_in, message_in, time, is_sleep, Wait, Tables, task_count, mutex_count, sem_count, queue_count, priority_of, outcome_of, wait_of, words_of, kind_of, owner_of, count_of, maximum_of, width_of, depth_of, queue_owner_of, messages_of, space_taken}
use Rattle.rules.specs.Levels.{next}
use Rattle.rules.specs.State.{State, level_of}
use Rattle.rules.specs.Sound.{wait_count, is_width}

-- "an existing object that isn't available to it (mutex owned, semaphore at 0) or for time"
abbrev pub Unavailable : Tables → Awaited → Type 0
Unavailable t (mutex_of m) = (o : ℕ) × (owner_of t m ≡ some o)
Unavailable t (sem_of k) = (k < sem_count t) × (count_of t k ≡ 0)
Unavailable t (room_in q) = (q < queue_count t) × (length (messages_of t q) ≡ depth_of t q)
Unavailable t (message_in q) = (q < queue_count t) × (length (messages_of t q) ≡ 0)
Unavailable t time = Unit

abbrev pub Blocked : Tables → Option Wait → Type 0
Blocked t none = Unit
Blocked t (some w) = Unavailable t w.on

-- "only the owner waits to receive from an owned queue, and a waiting sender's words past w are 0"
abbrev pub Suits : Tables → ℕ → Awaited → Type 0
Suits t i (mutex_of m) = Unit
Suits t i (sem_of k) = Unit
Suits t i (room_in q) = (n : ℕ) → width_of t q ≤ n → get_or (words_of t i) n 0 ≡ 0
Suits t i (message_in q) = (o : ℕ) → queue_owner_of t q ≡ some o → o ≡ i
Suits t i time = Unit

abbrev pub Queued : Tables → ℕ → Option Wait → Type 0
Queued t i none = Unit
Queued t i (some w) = Suits t i w.on

-- a queue's numbers are in range, and its messages fit
pub record QueueFits (w d : ℕ) (ms : List (List ℕ)) : Type 0 where
  pub width_in : is_width w ≡ true
  pub depth_above : 1 ≤ d
  pub depth_in : d ≤ max_depth
  pub room : length ms ≤ d
  pub wide : (k : ℕ) → k < length ms → length (get_or ms k []) ≡ w

-- "1 to 2147483647 ticks left and each sleep is timed"
abbrev pub Left : Awaited → Option ℕ → Type 0
Left a none = is_sleep a ≡ false
Left a (some n) = (1 ≤ n) × (n ≤ max_ticks)

abbrev pub Timed : Option Wait → Type 0
Timed none = Unit
Timed (some w) = Left w.on w.left

-- "outcomes 0, 1, 20 or 21, and 1 exactly for waiting tasks"
abbrev pub Outcome : Option Wait → ℕ → Type 0
Outcome none n = (n ≡ granted) ⊎ ((n ≡ timed_out) ⊎ (n ≡ flushed))
Outcome (some w) n = n ≡ pending

-- what holds of the tables in every phase
pub record Facts (t : Tables) : Type 0 where
  pub wait_column : length t.tasks.waits ≡ task_count t
  pub outcome_column : length t.tasks.outcomes ≡ task_count t
  pub kind_column : length t.mutexes.kinds ≡ mutex_count t
  pub maximum_column : length t.semaphores.maxima ≡ sem_count t
  pub word_column : length t.tasks.words ≡ task_count t
  pub width_column : length t.queues.widths ≡ queue_count t
  pub depth_column : length t.queues.depths ≡ queue_count t
  pub message_column : length t.queues.messages ≡ queue_count t
  -- "Numbers within the ranges above"
  pub few_tasks : task_count t ≤ max_tasks
  pub few_mutexes : mutex_count t ≤ max_mutexes
  pub few_semaphores : sem_count t ≤ max_semaphores
  pub few_queues : queue_count t ≤ max_queues
  pub priorities : (i : ℕ) → i < task_count t → priority_of t i < levels
  pub kinds_in : (m : ℕ) → m < mutex_count t → kind_of t m < kinds
  -- who waits stands once in the order of waits, and nobody else
  pub waiting : (i : ℕ) → occ i t.tasks.waiting ≡ wait_count (wait_of t i)
  pub blocked : (i : ℕ) → Blocked t (wait_of t i)
  pub timed : (i : ℕ) → Timed (wait_of t i)
  -- "owners exist"
  pub owners : (m o : ℕ) → owner_of t m ≡ some o → o < task_count t
  pub owned_queues : (q o : ℕ) → queue_owner_of t q ≡ some o → o < task_count t
  -- "no ring of waits"
  pub ends : (i : ℕ) → Ends (next t) (some i)
  -- "counts at most their maximum, maximum at least 1"
  pub counts : (k : ℕ) → k < sem_count t → (count_of t k ≤ maximum_of t k) × (1 ≤ maximum_of t k)
  pub outcomes : (i : ℕ) → i < task_count t → Outcome (wait_of t i) (outcome_of t i)
  pub queues : (q : ℕ) → q < queue_count t → QueueFits (width_of t q) (depth_of t q) (messages_of t q)
  -- "Queues fill the block in order of id from word 0": all of them lie in it
  pub placed_in : space_taken t ≤ t.queues.space
  -- "A task holds eight words"
  pub words : (i : ℕ) → i < task_count t → length (words_of t i) ≡ held_words
  pub queued : (i : ℕ) → Queued t i (wait_of t i)

-- each task in exactly one of woken (ready, but not yet in the ready order), ready, waiting, running
abbrev pub Places : State → List ℕ → Type 0
Places s woken = (i : ℕ) → occ i woken + (occ i s.ready + (occ i s.tables.tasks.waiting + occ i (opt s.running))) ≡ below i (task_count s.tables)

-- "once started, a task runs if any is ready"
abbrev pub Runs : State → Type 0
Runs s = (i : ℕ) → 1 ≤ occ i s.ready → (r : ℕ) × (s.running ≡ some r)

-- "at hold 0 none ready is more urgent than the running one"
abbrev pub Urgent : State → Type 0
Urgent s = s.hold ≡ 0 → (i r : ℕ) → 1 ≤ occ i s.ready → s.running ≡ some r → level_of s r ≤ level_of s i

-- "hold above 0 only with a running task"
abbrev pub HoldRuns : State → Type 0
HoldRuns s = 1 ≤ s.hold → (r : ℕ) × (s.running ≡ some r)

-- "In set-up: clock 0, hold 0, nothing running, waiting or owned, outcomes 0, every task ready, equal levels by id"; document 02, K1: "in
-- set-up queues are empty, held words 0, and only mutexes must be unowned"
pub record SetUp (s : State) : Type 0 where
  pub clock_0 : s.clock ≡ 0
  pub hold_0 : s.hold ≡ 0
  pub idle : s.running ≡ none
  pub nobody_waits : (i : ℕ) → occ i s.tables.tasks.waiting ≡ 0
  pub nothing_owned : (m : ℕ) → owner_of s.tables m ≡ none
  pub outcomes_0 : (i : ℕ) → outcome_of s.tables i ≡ granted
  pub queues_empty : (q : ℕ) → length (messages_of s.tables q) ≡ 0
  pub words_0 : (i n : ℕ) → get_or (words_of s.tables i) n 0 ≡ 0
  pub id_order : Ties (level_of s) s.ready

pub record Started (s : State) : Type 0 where
  pub runs : Runs s
  pub hold_runs : HoldRuns s
  pub urgent : Urgent s

pub record Inv (s : State) : Type 0 where
  pub facts : Facts s.tables
  pub clock_in : s.clock < word_size
  pub hold_in : s.hold ≤ max_hold
  pub places : Places s []
  pub ascending : Asc (level_of s) s.ready
  pub when_started : s.started ≡ true → Started s
  pub at_set_up : s.started ≡ false → SetUp s
