-- Rust's `&` and `|` on tests are the connectives of the contracts; a conjunction that a loop carries by `&=`.
use Rattle.std.specs.Prelude.{◌≡◌, Bool, true, false, not, cond, ℕ, ◌+◌, ◌&&◌, ◌||◌}
use Rattle.std.proofs.Math.Path.{refl}
use Rattle.std.proofs.Math.Numerals.{add-one}
use Rattle.lists.specs.Test.{◌and◌, ◌or◌, allb}

pub amp_and : (a b : Bool) → (a && b) ≡ (a and b)
unfolding ◌and◌
amp_and true b = refl
amp_and false b = refl

pub bar_or : (a b : Bool) → (a || b) ≡ (a or b)
unfolding ◌or◌
bar_or true b = refl
bar_or false b = refl

amp_swap : (a b : Bool) → (a && b) ≡ (b and a)
unfolding ◌and◌
amp_swap true true = refl
amp_swap true false = refl
amp_swap false true = refl
amp_swap false false = refl

-- conjunctions and disjunctions of three group to the left in Rust
pub and_right : (a b c : Bool) → ((a and b) and c) ≡ (a and (b and c))
unfolding ◌and◌
and_right true b c = refl
and_right false b c = refl

pub or_right : (a b c : Bool) → ((a or b) or c) ≡ (a or (b or c))
unfolding ◌or◌
or_right true b c = refl
or_right false b c = refl

-- `&&` goes on to its second part only where the first holds
pub and_on : (a b : Bool) → a ≡ true → (a and b) ≡ b
unfolding ◌and◌
and_on a b e = rw e refl

pub and_off : (a b : Bool) → a ≡ false → (a and b) ≡ a
unfolding ◌and◌
and_off a b e = rw e refl

-- a choice of two tests, both worked out
pub choice : (w a b : Bool) → ((w && a) || (not w && b)) ≡ cond w a b
choice true true b = refl
choice true false b = refl
choice false a b = refl

pub only_where : (w a : Bool) → (not w || a) ≡ cond w a true
only_where true a = refl
only_where false a = refl

pub ruleset operators = (amp_and, bar_or, and_right, or_right, choice, only_where)

-- a conjunction carried through a loop over a table, one place more: `fits &= turn`
pub fits_amp : (p : ℕ → Bool) (j : ℕ) (fits turn : Bool) → fits ≡ allb j p → turn ≡ p j → (fits && turn) ≡ allb (j + 1) p
unfolding allb
fits_amp p j fits turn e q = rw (add-one, e, q) (amp_swap (allb j p) (p j))
