-- A place in a text: whether a line begins there, and the lines from there on.
use Rattle.std.specs.Prelude.{ℕ, Bool, List, leb, length, drop}
use Rattle.text.specs.Lines.{lines}

-- no line begins at the text's end, or past it
abbrev pub ended_at : List ℕ → ℕ → Bool
ended_at text at = leb (length text) at

abbrev pub lines_from : List ℕ → ℕ → List (List ℕ)
lines_from text at = lines (drop at text)
