-- How a step is written: the one line that it has. WrittenLaws of `syntax` proves that these lines, for a send those with one to eight words,
-- and no others, are steps.
use Rattle.std.specs.Prelude.{List, [], ◌∷◌, map, ℕ, ◌≤◌, get_or}
use Rattle.std.proofs.Math.Option.{none, some}
use Rattle.text.specs.Cut.{joined}
use Rattle.decimal.specs.Decimal.{decimal}
use Rattle.text.specs.Fields.{tab}
use Rattle.decimal.specs.Parse.{most}
use Rattle.rules.specs.Step.{Step, task, mutex, sem, start, lock, unlock, pend, post, flush, sleep, yield, hold, free, tick, level, outcome, queue, send, receive, word}
use Rattle.text.specs.Ascii.{ascii}

-- "a step's name above"
unfoldable pub name_of : Step → List ℕ
name_of (task p) = ascii "task"
name_of (mutex k) = ascii "mutex"
name_of (sem n m) = ascii "sem"
name_of start = ascii "start"
name_of (lock m t) = ascii "lock"
name_of (unlock m) = ascii "unlock"
name_of (pend k t) = ascii "pend"
name_of (post k) = ascii "post"
name_of (flush k) = ascii "flush"
name_of (sleep t) = ascii "sleep"
name_of yield = ascii "yield"
name_of hold = ascii "hold"
name_of free = ascii "free"
name_of tick = ascii "tick"
name_of (level i) = ascii "level"
name_of (outcome i) = ascii "outcome"
name_of (queue w d o) = ascii "queue"
name_of (send q t m) = ascii "send"
name_of (receive q t) = ascii "receive"
name_of (word i n) = ascii "word"

-- "and its numbers"
unfoldable pub numbers_in : Step → List ℕ
numbers_in (task p) = p ∷ []
numbers_in (mutex k) = k ∷ []
numbers_in (sem n m) = n ∷ m ∷ []
numbers_in start = []
numbers_in (lock m t) = m ∷ t ∷ []
numbers_in (unlock m) = m ∷ []
numbers_in (pend k t) = k ∷ t ∷ []
numbers_in (post k) = k ∷ []
numbers_in (flush k) = k ∷ []
numbers_in (sleep t) = t ∷ []
numbers_in yield = []
numbers_in hold = []
numbers_in free = []
numbers_in tick = []
numbers_in (level i) = i ∷ []
numbers_in (outcome i) = i ∷ []
numbers_in (queue w d none) = w ∷ d ∷ []
numbers_in (queue w d (some o)) = w ∷ d ∷ o ∷ []
numbers_in (send q t m) = q ∷ t ∷ m
numbers_in (receive q t) = q ∷ t ∷ []
numbers_in (word i n) = i ∷ n ∷ []

-- "Fields are parted by one tab", the numbers "decimal"
abbrev pub row_of : Step → List (List ℕ)
row_of x = name_of x ∷ map decimal (numbers_in x)

unfoldable pub line_of : Step → List ℕ
line_of x = joined tab (row_of x)

-- its numbers are "at most 4294967295"
abbrev pub Within : List ℕ → Type 0
Within l = (i : ℕ) → get_or l i 0 ≤ most

abbrev pub NumbersFit : Step → Type 0
NumbersFit x = Within (numbers_in x)
