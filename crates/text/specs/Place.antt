-- Bytes written at a place of lent memory, whole or not at all.
use Rattle.std.specs.Prelude.{ℕ, ◌+◌, List, ◌++◌, Bool, Option, Some, None, cond, leb, length, take, drop}

-- there is room for bs from `at` on
abbrev pub room : List ℕ → ℕ → List ℕ → Bool
room l at bs = leb (at + length bs) (length l)

-- bs stands from `at` on, and every other byte stays
abbrev pub laid : List ℕ → ℕ → List ℕ → List ℕ
laid l at bs = take at l ++ bs ++ drop (at + length bs) l

-- the answer: the place after bs, or that there is no room
unfoldable pub put_answer : List ℕ → ℕ → List ℕ → Option ℕ
put_answer l at bs = cond (room l at bs) (Some (at + length bs)) None

-- the memory afterwards: all of bs where there is room, and else nothing is written
unfoldable pub put_bytes : List ℕ → ℕ → List ℕ → List ℕ
put_bytes l at bs = cond (room l at bs) (laid l at bs) l
