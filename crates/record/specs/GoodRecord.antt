-- What the types of a record tell.
use Rattle.std.specs.Prelude.{◌≡◌, ℕ, ◌*◌, ◌<◌, List, length, slice_index}
use Rattle.rules.specs.Sizes.{task_places, max_mutexes, max_semaphores, max_queues, held_words, word_size}
use Rattle.task_lists.specs.TaskList.{places}
use Rattle.record.specs.declared.State.{State}  -- keep

-- what holds of every value of the record's type: arrays have their lengths, and numbers fit
pub record Typed (k : State) : Type 0 where
  pub due_length : length k.tasks.due ≡ task_places
  pub priority_length : length k.tasks.priority ≡ task_places
  pub level_length : length k.tasks.level ≡ task_places
  pub outcome_length : length k.tasks.outcome ≡ task_places
  pub wait_length : length k.tasks.wait ≡ task_places
  pub object_length : length k.tasks.object ≡ task_places
  pub timed_length : length k.tasks.timed ≡ task_places
  pub kind_length : length k.mutexes.kind ≡ max_mutexes
  pub owner_length : length k.mutexes.owner ≡ max_mutexes
  pub count_length : length k.semaphores.count ≡ max_semaphores
  pub maximum_length : length k.semaphores.maximum ≡ max_semaphores
  pub width_length : length k.queues.width ≡ max_queues
  pub depth_length : length k.queues.depth ≡ max_queues
  pub queue_owner_length : length k.queues.owner ≡ max_queues
  pub oldest_length : length k.queues.oldest ≡ max_queues
  pub used_length : length k.queues.used ≡ max_queues
  pub ready_length : length k.ready.ids ≡ places
  pub waiting_length : length k.waiting.ids ≡ places
  pub due_word : (i : ℕ) → slice_index k.tasks.due i < word_size
  pub clock_word : k.clock < word_size
  pub hold_byte : k.hold < 256

-- the words that tasks hold are as many as there are places for
abbrev pub WordsTyped : List ℕ → Type 0
WordsTyped words = length words ≡ held_words * task_places
