-- The fields of a line: "Fields are parted by one tab."
use Rattle.std.specs.Prelude.{ℕ, List, [], ◌∷◌, get_or}
use Rattle.text.specs.Cut.{pieces}

abbrev pub tab : ℕ
tab = 9

-- the last field ends with the line, so an empty line has one empty field
unfoldable pub fields : List ℕ → List (List ℕ)
fields line = pieces tab ([] ∷ []) line

-- the n-th field, from 0 on; nothing where the line has no such field
abbrev pub field_at : List ℕ → ℕ → List ℕ
field_at line n = get_or (fields line) n []
