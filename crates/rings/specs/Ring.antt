-- A message queue as a ring in a block of words: its numbers, its place, and its messages.
use Rattle.std.specs.Prelude.{ℕ, ◌+◌, ◌-◌, ◌*◌, ◌≤◌, ◌<◌, List, cond, ◌⊎◌, ltb}
use Rattle.lists.specs.Table.{filled}
use Rattle.rings.specs.Words.{words}

-- the first word of the queue's place, words a message, places for messages, the place of the oldest message, and how many there are
pub record Ring : Type 0 where
  pub at : ℕ
  pub width : ℕ
  pub depth : ℕ
  pub oldest : ℕ
  pub used : ℕ

-- the ring place k behind the oldest, round the end; without a division, as the code has it
unfoldable pub slot_of : ℕ → ℕ → ℕ → ℕ
slot_of oldest depth k = cond (ltb (oldest + k) depth) (oldest + k) (oldest + k - depth)

-- the first word of the message that stands k behind the oldest
abbrev pub spot : Ring → ℕ → ℕ
spot r k = r.at + r.width * slot_of r.oldest r.depth k

-- the first word behind the queue's place
abbrev pub past : Ring → ℕ
past r = r.at + r.width * r.depth

-- the words of the message that stands k behind the oldest
abbrev pub message : List ℕ → Ring → ℕ → List ℕ
message b r k = words (spot r k) r.width b

-- the queue's messages, oldest first
abbrev pub messages : List ℕ → Ring → List (List ℕ)
messages b r = filled r.used (message b r)

-- the queue's numbers are in range, and its place lies in a block of n words
pub record Sits (n : ℕ) (r : Ring) : Type 0 where
  pub some : 1 ≤ r.width
  pub first : r.oldest < r.depth
  pub filled_to : r.used ≤ r.depth
  pub within : past r ≤ n

-- the places of two queues have no word in common
abbrev pub Apart : Ring → Ring → Type 0
Apart r p = (past r ≤ p.at) ⊎ (past p ≤ r.at)

-- one message more, the newest
abbrev pub fuller : Ring → Ring
fuller r = record { at = r.at; width = r.width; depth = r.depth; oldest = r.oldest; used = r.used + 1 }

-- one less, the oldest
abbrev pub fewer : Ring → Ring
fewer r = record { at = r.at; width = r.width; depth = r.depth; oldest = slot_of r.oldest r.depth 1; used = r.used - 1 }

-- the oldest gone and a new one in its place
abbrev pub turned : Ring → Ring
turned r = record { at = r.at; width = r.width; depth = r.depth; oldest = slot_of r.oldest r.depth 1; used = r.used }
