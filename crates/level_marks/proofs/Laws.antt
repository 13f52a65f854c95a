-- A task's level read from a full table.
use Rattle.std.proofs.Common.{◌≡◌, ℕ, List, length, get_or, refl, arith}
use Rattle.std.proofs.Math.Decide.{dec_lt}
use borrow.Author.Tests.{lt-ltb, le-ltb}
use lib.ListN.{get_or-eq_default}
use Rattle.std.proofs.lemmas.List.{get_or_default}
use Rattle.rules.specs.Sizes.{task_places, levels}
use Rattle.level_marks.specs.Marks.{level_at}

pub level_got : (table : List ℕ) (x : ℕ) → length table ≡ task_places → level_at table x ≡ get_or table x levels
unfolding level_at
level_got table x e = elim (dec_lt x task_places) [
  | yes h ↦ rw (lt-ltb x task_places h) (get_or_default table x 0 levels (omega arith))
  | no h ↦ rw (le-ltb x task_places (omega arith), get_or-eq_default table levels {n = x} (omega arith)) refl
]
