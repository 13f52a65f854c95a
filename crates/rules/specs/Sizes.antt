-- Sizes, ranges and outcomes, each named once. The laws of lists and chains hold for every size.
use Rattle.std.specs.Prelude.{ℕ}

-- "Tasks 0 to 15, mutexes 0 to 7, semaphores 0 to 7"
abbrev pub max_tasks : ℕ
max_tasks = 16

-- how many tasks a record has places for, no fewer than there may be
abbrev pub task_places : ℕ
task_places = 16

abbrev pub max_mutexes : ℕ
max_mutexes = 8

abbrev pub max_semaphores : ℕ
max_semaphores = 8

-- document 02, K1: "ids 0 to 7"
abbrev pub max_queues : ℕ
max_queues = 8

-- "depth 1 to 64"
abbrev pub max_depth : ℕ
max_depth = 64

-- "A task holds eight words": also the widest message
abbrev pub held_words : ℕ
held_words = 8

-- "Priority 0 is the most urgent, 31 the least": the number of levels
abbrev pub levels : ℕ
levels = 32

-- "A mutex is plain (kind 0) or inheriting (kind 1)": the number of kinds
abbrev pub kinds : ℕ
kinds = 2

-- the kind that lends its waiters' levels to the owner
abbrev pub inheriting : ℕ
inheriting = 1

-- "The clock counts ticks in 32 bits and goes from 4294967295 to 0": the number of 32-bit numbers
abbrev pub word_size : ℕ
word_size = 4294967296

-- "Hold depth is 0 to 255"
abbrev pub max_hold : ℕ
max_hold = 255

-- "A waiting time is 0 (don't wait), 1 to 2147483647 ticks, or 4294967295 (forever)"
abbrev pub max_ticks : ℕ
max_ticks = 2147483647

abbrev pub forever : ℕ
forever = 4294967295

-- the outcomes of a wait: granted (or slept), still waiting, timed out, flushed
abbrev pub granted : ℕ
granted = 0

abbrev pub pending : ℕ
pending = 1

abbrev pub timed_out : ℕ
timed_out = 20

abbrev pub flushed : ℕ
flushed = 21

-- the kinds of wait; 0 is none
abbrev pub on_mutex : ℕ
on_mutex = 1

abbrev pub on_semaphore : ℕ
on_semaphore = 2

abbrev pub on_time : ℕ
on_time = 3

abbrev pub on_send : ℕ
on_send = 4

abbrev pub on_receive : ℕ
on_receive = 5
