-- What each move leaves: the words that tasks hold, and the block. A move that does not fit changes nothing.
use Rattle.std.specs.Prelude.{ℕ, ◌*◌, List, cond, length}
use Rattle.rings.specs.Words.{words, laid}
use Rattle.rings.specs.Held.{eight, held}
use Rattle.moves.specs.Fits.{can_hold, can_queue, can_take, can_swap}
use Rattle.moves.specs.declared.Move.{Move}
use Rattle.moves.specs.declared.Move.TheVariants.{Nothing, Hold, Queue, Take, Swap}

-- the table t where the task holds the message m
unfoldable pub hold_words : List ℕ → ℕ → List ℕ → List ℕ
hold_words t task m = cond (can_hold (length t) task (length m)) (held t task m) t

-- the block b with the message m at a place
unfoldable pub queue_block : List ℕ → ℕ → List ℕ → List ℕ
queue_block b place m = cond (can_queue (length b) place (length m)) (laid b place m) b

-- the table where the task holds the message that stands at a place of the block
unfoldable pub take_words : List ℕ → List ℕ → ℕ → ℕ → ℕ → List ℕ
take_words t b place width task = cond (can_take (length t) (length b) place width task) (held t task (words place width b)) t

-- the same table, where the sender's words fit too
unfoldable pub swap_words : List ℕ → List ℕ → ℕ → ℕ → ℕ → ℕ → List ℕ
swap_words t b place width task sender =
    cond (can_swap (length t) (length b) place width task sender) (held t task (words place width b)) t

-- the block where the words that the sender holds then stand at that place
unfoldable pub swap_block : List ℕ → List ℕ → ℕ → ℕ → ℕ → ℕ → List ℕ
swap_block t b place width task sender =
    cond (can_swap (length t) (length b) place width task sender) (laid b place (words (eight * sender) width (held t task (words place width b)))) b

-- every word of the table after a move, from the table t, the message m and the block b before it
abbrev pub words_after : Move → List ℕ → List ℕ → List ℕ → List ℕ
words_after Nothing t m b = t
words_after (Hold task) t m b = hold_words t task m
words_after (Queue place) t m b = t
words_after (Take place width task) t m b = take_words t b place width task
words_after (Swap place width task sender) t m b = swap_words t b place width task sender

-- every word of the block after a move
abbrev pub block_after : Move → List ℕ → List ℕ → List ℕ → List ℕ
block_after Nothing t m b = b
block_after (Hold task) t m b = b
block_after (Queue place) t m b = queue_block b place m
block_after (Take place width task) t m b = b
block_after (Swap place width task sender) t m b = swap_block t b place width task sender
