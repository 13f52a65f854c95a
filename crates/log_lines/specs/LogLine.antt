-- The lines of a log, as bytes.
use Rattle.std.specs.Prelude.{List, [], ◌∷◌, ◌++◌, cond, ℕ, ◌+◌, length}
use Rattle.decimal.specs.Decimal.{decimal}
use Rattle.text.specs.Place.{room}
use Rattle.text.specs.Fields.{tab}
use Rattle.text.specs.Lines.{lf}
use Rattle.rules.specs.Log.{run_field}
use Rattle.walks.specs.Walk.{task_at}
use Rattle.text.specs.Ascii.{ascii}

-- "one line for each script line: answer, value, running task or `-`", with its LF; an id that no task has stands for none
unfoldable pub line_bytes : ℕ → ℕ → ℕ → List ℕ
line_bytes number value run = decimal number ++ (tab ∷ (decimal value ++ (tab ∷ (run_field (task_at run) ++ (lf ∷ [])))))

-- "The log's first line is `log`, tab, `1`"
unfoldable pub log_bytes : List ℕ
log_bytes = ascii "log\t1\n"

-- "else the whole log is the line `bad`, tab, `1`"
unfoldable pub bad_bytes : List ℕ
bad_bytes = ascii "bad\t1\n"

-- how much room a log line takes at most: three numbers, two tabs and an LF
abbrev pub line_room : ℕ
line_room = 33

-- the place after bytes put from `at` on, or `at` itself where they have no room
unfoldable pub place_after : List ℕ → ℕ → List ℕ → ℕ
place_after l at bs = cond (room l at bs) (at + length bs) at
