-- Whether a move fits: tests of lengths and places, and the same as facts.
use Rattle.std.specs.Prelude.{ℕ, ◌+◌, ◌*◌, ◌≤◌, Bool, leb}
use Rattle.lists.specs.Test.{◌and◌}
use Rattle.rings.specs.Held.{eight}

-- the task has its eight words in a table of `table` words, and n words fit into them
unfoldable pub can_hold : ℕ → ℕ → ℕ → Bool
can_hold table task n = leb (eight * task + eight) table and leb n eight

-- n words from `place` on lie in a block of `block` words
unfoldable pub can_queue : ℕ → ℕ → ℕ → Bool
can_queue block place n = leb (place + n) block

-- the message at `place` lies in the block, and the task can hold it
unfoldable pub can_take : ℕ → ℕ → ℕ → ℕ → ℕ → Bool
can_take table block place width task = can_queue block place width and can_hold table task width

-- and the sender holds one as wide
unfoldable pub can_swap : ℕ → ℕ → ℕ → ℕ → ℕ → ℕ → Bool
can_swap table block place width task sender = can_take table block place width task and can_hold table sender width

-- the same as facts
pub record Holds (table task n : ℕ) : Type 0 where
  pub place : eight * task + eight ≤ table
  pub size : n ≤ eight

pub record Takes (table block place width task : ℕ) : Type 0 where
  pub within : place + width ≤ block
  pub room : Holds table task width

pub record Swaps (table block place width task sender : ℕ) : Type 0 where
  pub taken : Takes table block place width task
  pub sent : Holds table sender width
