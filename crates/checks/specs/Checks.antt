-- The code's own test of a record, phrase by phrase as the code goes. A reader need not believe it: CheckLaws show it equal to `sound_of`.
-- A test of a table is made at every place; unused places, which hold what the fresh record holds, pass too.
use Rattle.std.specs.Prelude.{List, Bool, true, cond, not, ℕ, ◌+◌, ◌*◌, ◌%◌, ltb, leb, eqb, get_or, replicate}
use Rattle.lists.specs.Test.{◌and◌, ◌or◌, allb}
use Rattle.lists.specs.Order.{ascb, tiesb}
use Rattle.lists.specs.Table.{filled}
use Rattle.chains.specs.Chain.{endsb}
use Rattle.rules.specs.Sizes.{task_places, max_mutexes, max_semaphores, max_queues, held_words, levels, kinds, max_ticks, granted, pending, timed_out, flushed, on_mutex, on_semaphore, on_time, on_send, on_receive}
use Rattle.rules.specs.Sound.{is_width, is_depth}
use Rattle.rings.specs.Starts.{start_in}
use Rattle.rules.specs.Levels.{next}
use Rattle.task_lists.specs.TaskList.{no_id, items, key_of, counted, id_fits_at}
use Rattle.walks.specs.Walk.{task_at, next_in, lent_by}
use Rattle.record.specs.Record.{ticks_left}
use Rattle.record.specs.Reads.{led_by, heir_at, first_id}
use Rattle.record.specs.SoundRecord.{is_object_wait, words_tidyb}
use Rattle.record.specs.declared.State.{State}  -- keep
use Rattle.record.specs.declared.Tasks.{Tasks}  -- keep
use Rattle.record.specs.declared.Mutexes.{Mutexes}  -- keep
use Rattle.record.specs.declared.Semaphores.{Semaphores}  -- keep
use Rattle.record.specs.declared.Queues.{Queues}  -- keep
use Rattle.task_lists.specs.declared.TaskList.{TaskList}  -- keep

-- how many there are of each, and who runs
unfoldable pub sizes_in : State → Bool
sizes_in k = leb k.tasks.n task_places and leb k.mutexes.n max_mutexes and leb k.semaphores.n max_semaphores
    and leb k.queues.n max_queues and leb k.ready.n task_places and leb k.waiting.n task_places and leb k.started 1
    and (eqb k.running no_id or ltb k.running k.tasks.n)

-- a place behind the last of n holds 0
abbrev pub unused_at : List ℕ → ℕ → ℕ → Bool
unused_at column n i = ltb i n or eqb (get_or column i 0) 0

-- the same by flags of the used places
abbrev pub unused_by : List ℕ → List ℕ → ℕ → Bool
unused_by column used i = eqb (get_or used i 0) 1 or eqb (get_or column i 0) 0

unfoldable pub unused_in : Tasks → Bool
unused_in t = allb task_places (unused_at t.priority t.n) and allb task_places (unused_at t.level t.n) and allb task_places (unused_at t.outcome t.n)
    and allb task_places (unused_at t.wait t.n) and allb task_places (unused_at t.object t.n) and allb task_places (unused_at t.timed t.n)

-- a task's own priority
abbrev pub priority_at : List ℕ → ℕ → Bool
priority_at priorities i = ltb (get_or priorities i 0) levels

-- the same for a used place, and an unused one holds 0: by flags of the used places
abbrev pub priority_fits_by : List ℕ → List ℕ → ℕ → Bool
priority_fits_by priorities used i = cond (eqb (get_or used i 0) 1) (ltb (get_or priorities i 0) levels) (eqb (get_or priorities i 0) 0)

-- the other columns' unused places hold 0: by flags of the used places
unfoldable pub others_unused : Tasks → List ℕ → Bool
others_unused t used = allb task_places (unused_by t.level used) and allb task_places (unused_by t.outcome used)
    and allb task_places (unused_by t.wait used) and allb task_places (unused_by t.object used) and allb task_places (unused_by t.timed used)

-- a task's wait: an object only for a wait on one, a time only for a wait
unfoldable pub wait_fits : ℕ → ℕ → ℕ → Bool
wait_fits kind object timed = leb kind on_receive and (eqb object 0 or is_object_wait kind) and leb timed 1 and (eqb timed 0 or not (eqb kind 0))

abbrev pub wait_fits_at : List ℕ → List ℕ → List ℕ → ℕ → Bool
wait_fits_at waits objects timed i = wait_fits (get_or waits i 0) (get_or objects i 0) (get_or timed i 0)

-- a task waits for no object: it waits for time, or not at all
abbrev pub no_object_at : List ℕ → ℕ → Bool
no_object_at waits i = not (is_object_wait (get_or waits i 0))

-- its time: 1 to 2147483647 ticks left, or none, and then it isn't a sleep
unfoldable pub time_fits : ℕ → ℕ → ℕ → ℕ → Bool
time_fits kind timed due clock = cond (eqb timed 1)
    (ltb 0 (ticks_left due clock) and leb (ticks_left due clock) max_ticks)
    (eqb due 0 and not (eqb kind on_time))

abbrev pub time_fits_at : List ℕ → List ℕ → List ℕ → ℕ → ℕ → Bool
time_fits_at waits timed due clock i = time_fits (get_or waits i 0) (get_or timed i 0) (get_or due i 0) clock

-- its outcome
unfoldable pub outcome_fits : ℕ → ℕ → Bool
outcome_fits kind n = cond (eqb kind 0) (eqb n granted or eqb n timed_out or eqb n flushed) (eqb n pending)

abbrev pub outcome_fits_at : List ℕ → List ℕ → ℕ → Bool
outcome_fits_at waits outcomes i = outcome_fits (get_or waits i 0) (get_or outcomes i 0)

unfoldable pub tasks_in : Tasks → ℕ → Bool
tasks_in t clock = unused_in t and allb task_places (priority_at t.priority) and allb task_places (wait_fits_at t.wait t.object t.timed)
    and allb task_places (time_fits_at t.wait t.timed t.due clock) and allb task_places (outcome_fits_at t.wait t.outcome)

-- a mutex: its kind in range, its owner one of the tasks; an unused one is as in the fresh record
unfoldable pub mutex_fits : Bool → ℕ → ℕ → ℕ → Bool
mutex_fits used tasks kind owner = cond used (ltb kind kinds and (eqb owner no_id or ltb owner tasks)) (eqb kind 0 and eqb owner no_id)

abbrev pub mutex_fits_at : List ℕ → List ℕ → ℕ → ℕ → ℕ → Bool
mutex_fits_at kinds owners n tasks j = mutex_fits (ltb j n) tasks (get_or kinds j 0) (get_or owners j 0)

-- a semaphore: its count at most its maximum, and that at least 1; an unused one is as in the fresh record
unfoldable pub sem_fits : Bool → ℕ → ℕ → Bool
sem_fits used count maximum = cond used (leb count maximum and ltb 0 maximum) (eqb count 0 and eqb maximum 0)

abbrev pub sem_fits_at : List ℕ → List ℕ → ℕ → ℕ → Bool
sem_fits_at counts maxima n j = sem_fits (ltb j n) (get_or counts j 0) (get_or maxima j 0)

unfoldable pub objects_in : Mutexes → Semaphores → ℕ → Bool
objects_in m c tasks = allb max_mutexes (mutex_fits_at m.kind m.owner m.n tasks) and allb max_semaphores (sem_fits_at c.count c.maximum c.n)

-- a queue: its width and depth in range, its owner one of the tasks, its oldest message in its ring, and no more messages than there is room for; an
-- unused one is as in the fresh record
unfoldable pub queue_fits : Bool → ℕ → ℕ → ℕ → ℕ → ℕ → ℕ → Bool
queue_fits used tasks width depth owner oldest count =
    cond used
    (is_width width and is_depth depth and (eqb owner no_id or ltb owner tasks) and ltb oldest depth and leb count depth)
    (eqb width 0 and eqb depth 0 and eqb owner no_id and eqb oldest 0 and eqb count 0)

abbrev pub queue_fits_at : Queues → ℕ → ℕ → Bool
queue_fits_at x tasks q = queue_fits (ltb q x.n) tasks (get_or x.width q 0) (get_or x.depth q 0) (get_or x.owner q 0) (get_or x.oldest q 0) (get_or x.used q 0)

-- "15 for a queue not so placed in the block": the block has a place for all of them
unfoldable pub queues_in : Queues → ℕ → ℕ → Bool
queues_in x tasks space = allb max_queues (queue_fits_at x tasks) and leb (start_in x.width x.depth x.n) space

-- the two lists
unfoldable pub lists_in : TaskList → TaskList → ℕ → Bool
lists_in ready waiting tasks = allb task_places (id_fits_at ready.ids ready.n tasks) and allb task_places (id_fits_at waiting.ids waiting.n tasks)

-- what a task waits for isn't available: its mutex has an owner, its semaphore exists and has no credit
unfoldable pub blocked_by : ℕ → ℕ → ℕ → ℕ → ℕ → Bool
blocked_by kind object semaphores owner count =
    cond (eqb kind on_mutex) (ltb object max_mutexes and not (eqb owner no_id))
    (cond (eqb kind on_semaphore) (ltb object semaphores and eqb count 0) true)

abbrev pub blocked_at : List ℕ → List ℕ → List ℕ → List ℕ → ℕ → ℕ → Bool
blocked_at waits objects owners counts semaphores i =
    let object = get_or objects i 0 in
    blocked_by (get_or waits i 0) object semaphores (get_or owners (object % max_mutexes) 0) (get_or counts (object % max_semaphores) 0)

unfoldable pub blocked_in : List ℕ → List ℕ → Mutexes → Semaphores → Bool
blocked_in waits objects m c = allb task_places (blocked_at waits objects m.owner c.count c.n)

-- the same, by whom the task leads to and by a flag of an empty semaphore at its object's place
unfoldable pub blocked_fits : ℕ → ℕ → ℕ → ℕ → ℕ → Bool
blocked_fits kind object semaphores next empty =
    cond (eqb kind on_mutex) (not (eqb next no_id))
    (cond (eqb kind on_semaphore) (ltb object semaphores and eqb empty 1) true)

abbrev pub blocked_fits_at : List ℕ → List ℕ → List ℕ → List ℕ → ℕ → ℕ → Bool
blocked_fits_at waits objects next empty semaphores i = blocked_fits (get_or waits i 0) (get_or objects i 0) semaphores (get_or next i 0) (get_or empty i 0)

abbrev pub empty_at : List ℕ → ℕ → ℕ
empty_at counts j = cond (eqb (get_or counts j 0) 0) 1 0

-- what stands in a table at each task's object
abbrev pub at_object : List ℕ → List ℕ → ℕ → ℕ
at_object objects table i = get_or table (get_or objects i 0 % max_semaphores) 0

-- the words of task i past the first w are 0
abbrev pub past_at : List ℕ → ℕ → ℕ → Bool
past_at words i w = allb held_words (λ n. ltb n w or eqb (get_or words (held_words * i + n) 0) 0)

-- who waits at a queue: one to send meets a full one, and its words past the width are 0; one to receive meets an empty one, which has no owner or is its own
unfoldable pub queue_wait_fits : Queues → List ℕ → ℕ → ℕ → ℕ → Bool
queue_wait_fits x words i kind object =
    cond (eqb kind on_send) (ltb object x.n and eqb (get_or x.used object 0) (get_or x.depth object 0) and past_at words i (get_or x.width object 0))
    (cond (eqb kind on_receive) (ltb object x.n and eqb (get_or x.used object 0) 0 and (eqb (get_or x.owner object 0) no_id or eqb (get_or x.owner object 0) i)) true)

unfoldable pub queue_waits_in : List ℕ → List ℕ → Queues → List ℕ → Bool
queue_waits_in waits objects x words = allb task_places (λ i. queue_wait_fits x words i (get_or waits i 0) (get_or objects i 0))

-- each task in one place: it stands in the order of waits as often as it waits, and in the two lists together once, or, where it runs, never
unfoldable pub waits_once : ℕ → ℕ
waits_once kind = cond (eqb kind 0) 0 1

unfoldable pub stands_once : ℕ → ℕ → ℕ → ℕ
stands_once n running i = cond (eqb running i) 0 (cond (ltb i n) 1 0)

abbrev pub place_fits : ℕ → ℕ → ℕ → ℕ → ℕ → ℕ → Bool
place_fits kind waits all n running i = eqb waits (waits_once kind) and eqb all (stands_once n running i)

abbrev pub place_at : List ℕ → List ℕ → List ℕ → ℕ → ℕ → ℕ → Bool
place_at kinds waits all n running i = place_fits (get_or kinds i 0) (get_or waits i 0) (get_or all i 0) n running i

unfoldable pub places_in : List ℕ → TaskList → TaskList → ℕ → ℕ → Bool
places_in kinds ready waiting n running =
    let waits = counted (replicate task_places 0) (items waiting) in
    allb task_places (place_at kinds waits (counted waits (items ready)) n running)

-- no ring: the chain of every owner ends, within as many links as there are places
unfoldable pub ringless : List ℕ → List ℕ → Mutexes → Queues → Bool
ringless waits objects m x =
    let next = filled task_places (λ i. led_by m.owner x.owner (get_or waits i 0) (get_or objects i 0)) in
    allb max_mutexes (λ j. endsb task_places (next_in next) (task_at (get_or m.owner j 0))) and allb max_queues (λ j. endsb task_places (next_in next) (task_at (get_or x.owner j 0)))

-- waits are for what isn't available, and close no ring
unfoldable pub waits_in : List ℕ → List ℕ → Mutexes → Semaphores → Queues → List ℕ → Bool
waits_in waits objects m c x words = blocked_in waits objects m c and queue_waits_in waits objects x words and ringless waits objects m x

-- stored levels: each is the least of the own priority and of the stored levels that are lent to the task
abbrev pub same_at : List ℕ → List ℕ → ℕ → Bool
same_at a b i = eqb (get_or a i 0) (get_or b i 0)

unfoldable pub levels_in : List ℕ → List ℕ → List ℕ → List ℕ → Mutexes → Queues → Bool
levels_in own level waits objects m x =
    let lends = filled task_places (λ i. led_by (filled max_mutexes (heir_at m)) x.owner (get_or waits i 0) (get_or objects i 0)) in
    allb task_places (same_at level (lent_by own lends level task_places))

-- after start: who runs, and at least as urgent as the first ready one
unfoldable pub started_in : List ℕ → TaskList → ℕ → ℕ → Bool
started_in levels ready running hold = cond (eqb running no_id) (eqb ready.n 0 and eqb hold 0)
    (cond (eqb hold 0) (cond (eqb ready.n 0) true (leb (key_of levels running) (key_of levels (first_id ready)))) true)

-- in set-up: the clock and scheduling stand, and nobody runs or waits; no mutex is owned, outcomes are 0, queues are empty, held words 0, and equal levels
-- stand by id
unfoldable pub at_rest : ℕ → ℕ → ℕ → ℕ → Bool
at_rest clock hold running waiting = eqb clock 0 and eqb hold 0 and eqb running no_id and eqb waiting 0

abbrev pub free_at : List ℕ → ℕ → Bool
free_at owners j = eqb (get_or owners j 0) no_id

unfoldable pub set_up_in : List ℕ → List ℕ → TaskList → List ℕ → List ℕ → List ℕ → Bool
set_up_in owners outcomes ready levels used words =
    allb max_mutexes (free_at owners) and allb task_places (unused_at outcomes 0) and allb max_queues (unused_at used 0) and allb (held_words * task_places) (unused_at words 0)
    and tiesb (key_of levels) (items ready)

-- the tables and lists, each by itself
unfoldable pub tables_in : State → List ℕ → ℕ → Bool
tables_in k words space = sizes_in k and tasks_in k.tasks k.clock and objects_in k.mutexes k.semaphores k.tasks.n and queues_in k.queues k.tasks.n space
    and words_tidyb words k.tasks.n and lists_in k.ready k.waiting k.tasks.n

-- all phrases, in an order in which each can rely on those before it
unfoldable pub checks : State → List ℕ → ℕ → Bool
checks k words space =
    let t = k.tasks in
    tables_in k words space and places_in t.wait k.ready k.waiting t.n k.running
    and waits_in t.wait t.object k.mutexes k.semaphores k.queues words
    and levels_in t.priority t.level t.wait t.object k.mutexes k.queues
    and ascb (key_of t.level) (items k.ready) and cond (eqb k.started 0)
    (at_rest k.clock k.hold k.running k.waiting.n and set_up_in k.mutexes.owner t.outcome k.ready t.level k.queues.used words)
    (started_in t.level k.ready k.running k.hold)
