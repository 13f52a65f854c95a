-- Where a block holds the messages of a table of queues. This is the record's matter: the rules know no ring and no block places.
use Rattle.std.specs.Prelude.{◌≡◌, ℕ, ◌<◌, List, [], length, slice_index, slice_index_or}
use Rattle.rules.specs.Tables.{QueueTable}
use Rattle.rings.specs.Ring.{Ring, messages}
use Rattle.rings.specs.Starts.{start_of}
use Rattle.record.specs.Record.{pack, pack_words}
use Rattle.record.specs.Whole.{Whole, whole}
use Rattle.rules.specs.State.{State as Model}  -- keep

-- the ring of a queue, where o has the ring places of the oldest messages
abbrev pub ring_of : List ℕ → QueueTable → ℕ → Ring
ring_of o x q = record {
  at = start_of x.widths x.depths q;
  width = slice_index x.widths q;
  depth = slice_index x.depths q;
  oldest = slice_index o q;
  used = length (slice_index_or x.messages q []);
}

-- the block b holds the messages of x, with the oldest ones at the ring places o
pub record Stands (o b : List ℕ) (x : QueueTable) : Type 0 where
  pub oldest_column : length o ≡ length x.owners
  pub in_ring : (q : ℕ) → q < length x.owners → slice_index o q < slice_index x.depths q
  pub there : (q : ℕ) → q < length x.owners → messages b (ring_of o x q) ≡ slice_index_or x.messages q []
  pub space : length b ≡ x.space

-- the packing of a state with its words, and a block
abbrev pub packed : List ℕ → List ℕ → Model → Whole
packed o b s = whole (pack o s) (pack_words s.tables) b
