-- The lines of a text: "Lines end with LF; a last line without LF counts, and nothing follows a final LF."
use Rattle.std.specs.Prelude.{ℕ, ◌+◌, List, [], ◌∷◌, cond, eqb, ltb, length, drop}
use Rattle.text.specs.Cut.{up_to, find_from, pieces}

abbrev pub lf : ℕ
lf = 10

-- the lines, without their LF
unfoldable pub lines : List ℕ → List (List ℕ)
lines text = pieces lf [] text

-- the LF that ends a text, where one does
unfoldable pub final_lf : List ℕ → List ℕ
final_lf [] = []
final_lf (c ∷ []) = cond (eqb c lf) (lf ∷ []) []
final_lf (c ∷ d ∷ cs) = final_lf (d ∷ cs)

-- the line that begins at a place: its bytes, and where it ends
abbrev pub line_from : List ℕ → ℕ → List ℕ
line_from text at = up_to lf (drop at text)

abbrev pub line_end : List ℕ → ℕ → ℕ
line_end text at = find_from lf text at

-- where the next line begins: behind the LF, or at the text's end
unfoldable pub next_line : List ℕ → ℕ → ℕ
next_line text at = cond (ltb (line_end text at) (length text)) (line_end text at + 1) (line_end text at)
