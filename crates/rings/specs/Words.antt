-- Words in lent memory: a part of it, a part of it overwritten, words filled up with zeros, and parts with no word in common.
use Rattle.std.specs.Prelude.{ℕ, ◌+◌, ◌≤◌, List, ◌++◌, ◌⊎◌, length, take, drop}
use Rattle.lists.specs.Table.{pad}

-- the n words from `at` on
abbrev pub words : ℕ → ℕ → List ℕ → List ℕ
words at n l = take n (drop at l)

-- ws stands from `at` on, and every other word stays
abbrev pub laid : List ℕ → ℕ → List ℕ → List ℕ
laid l at ws = take at l ++ ws ++ drop (at + length ws) l

-- ws and then zeros, n words in all
abbrev pub padded : ℕ → List ℕ → List ℕ
padded n ws = pad n 0 ws

-- n words from i on and m words from `at` on have none in common
abbrev pub Off : ℕ → ℕ → ℕ → ℕ → Type 0
Off i n at m = (i + n ≤ at) ⊎ (at + m ≤ i)
