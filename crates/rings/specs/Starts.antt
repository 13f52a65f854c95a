-- Where each queue begins, where the queues fill the block in the order of their ids.
use Rattle.std.specs.Prelude.{ℕ, zero, suc, ◌+◌, ◌*◌, List, cond, ltb, get_or, ◌≡◌}
use Rattle.rings.specs.Ring.{Ring}

-- the places for queues
abbrev pub queue_places : ℕ
queue_places = 8

-- the most words of a queue's place: 255 messages of 255 words
abbrev pub area_most : ℕ
area_most = 65025

-- the first word of queue j, by the widths and depths of the queues before it
unfoldable pub start_of : List ℕ → List ℕ → ℕ → ℕ
start_of widths depths zero = 0
start_of widths depths (suc j) = start_of widths depths j + get_or widths j 0 * get_or depths j 0

-- r is the ring of queue j: it begins where the queues before it end, with the width and the depth of queue j
pub record Placed (widths depths : List ℕ) (j : ℕ) (r : Ring) : Type 0 where
  pub begins : r.at ≡ start_of widths depths j
  pub wide : r.width ≡ get_or widths j 0
  pub deep : r.depth ≡ get_or depths j 0

-- j, or the number of places where j is more
unfoldable pub at_most_all : ℕ → ℕ
at_most_all j = cond (ltb j queue_places) j queue_places

-- the first word of queue j, and for an id that no queue has the first word behind them all
abbrev pub start_in : List ℕ → List ℕ → ℕ → ℕ
start_in widths depths j = start_of widths depths (at_most_all j)
