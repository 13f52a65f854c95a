-- Document 02, K2: the word of level marks of a ready order, and the first ready level worked out from it.
use Rattle.std.specs.Prelude.{List, [], ◌∷◌, Bool, false, cond, ℕ, ltb, eqb, get_or}
use Rattle.lists.specs.Test.{◌or◌}
use Rattle.rules.specs.Sizes.{task_places, levels}
use Rattle.level_marks.specs.Bits.{word_where, is_set, first_where}

-- "a task of level l is ready"
unfoldable pub ready_at : (ℕ → ℕ) → List ℕ → ℕ → Bool
ready_at level [] l = false
ready_at level (x ∷ ready) l = eqb (level x) l or ready_at level ready l

-- "a word of level marks [..]: bit l is set exactly when a task of level l is ready", for each of the levels
abbrev pub marks_of : (ℕ → ℕ) → List ℕ → ℕ
marks_of level ready = word_where levels (ready_at level ready)

-- the mark of one level
abbrev pub mark_of : ℕ → ℕ
mark_of l = word_where levels (eqb l)

-- "the first ready level worked out from a word": the first marked one; 32, the number of levels, where "none is found"
abbrev pub first_marked : ℕ → ℕ
first_marked word = first_where levels (is_set word)

-- a task's level in a table; an id that has no place there is no task, and has none of the levels
unfoldable pub level_at : List ℕ → ℕ → ℕ
level_at table x = cond (ltb x task_places) (get_or table x 0) levels

-- the word of level marks by a table of levels
abbrev pub marks_in : List ℕ → List ℕ → ℕ
marks_in table ready = marks_of (level_at table) ready
