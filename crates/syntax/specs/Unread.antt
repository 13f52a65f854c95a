-- A line whose numbers are being read: the numbers so far, and the fields that are left.
use Rattle.std.specs.Prelude.{List, [], ◌++◌, cond, ℕ, ◌+◌, ltb, length, drop}
use Rattle.std.proofs.Math.Option.{Option, none, some}
use Rattle.text.specs.Fields.{fields}
use Rattle.rules.specs.Step.{Step}
use Rattle.words.specs.Form.{numbers_of, made_from}

-- the fields that are left where one ends: those behind its tab, and none at the line's end
unfoldable pub unread : List ℕ → ℕ → List (List ℕ)
unread line at = cond (ltb at (length line)) (fields (drop (at + 1) line)) []

-- more numbers behind those so far, if there are such
unfoldable pub behind_these : List ℕ → Option (List ℕ) → Option (List ℕ)
behind_these l none = none
behind_these l (some k) = some (l ++ k)

-- what a name makes of the numbers so far and those of the fields that are left
abbrev pub made_with : List ℕ → List ℕ → ℕ → List ℕ → Option Step
made_with n l at line = made_from n (behind_these l (numbers_of (unread line at)))
