-- Laws of comparing two rows of bytes.
use Rattle.std.specs.Prelude.{◌≡◌, refl, List, [], ◌∷◌, true, false, ℕ, length, ◌+◌, ◌≤◌, ◌<◌, get_or, drop}
use Rattle.std.proofs.Common.{ap, inl, inr, add-one}
use borrow.Author.Tests.{eqb-true, eq-eqb, ne_eqb}
use Rattle.lists.specs.TestLaws.{which, clash, and_l, and_r}
use Rattle.words.specs.Form.{same_bytes}
use Rattle.std.proofs.Math.ListN.{drop_of_length-le}
use Rattle.std.proofs.Math.Seq.{drop-cons}
use Rattle.lists.specs.Test.{◌and◌}

-- rows that are found to be the same are equal
pub same_equal : (a b : List ℕ) → same_bytes a b ≡ true → a ≡ b
unfolding same_bytes
same_equal [] [] h = refl
same_equal [] (y ∷ ys) h = absurd (clash h refl)
same_equal (x ∷ xs) [] h = absurd (clash h refl)
same_equal (x ∷ xs) (y ∷ ys) h = rw (eqb-true x y (and_l _ _ h), same_equal xs ys (and_r _ _ h))

-- rows of different lengths are not the same
pub same_length : (a b : List ℕ) → (length a ≡ length b → ⊥) → same_bytes a b ≡ false
same_length a b h = elim (which (same_bytes a b)) [ inl e ↦ absurd (h (ap length (same_equal a b e))) | inr e ↦ e ]

module _ (a b : List ℕ) (i : ℕ) where
  -- one byte at place i
  pub same_next : i < length a → i < length b → get_or a i 0 ≡ get_or b i 0 → same_bytes (drop i a) (drop i b) ≡ same_bytes (drop (i + 1) a) (drop (i + 1) b)
  unfolding same_bytes ◌and◌
  same_next h k e = rw (add-one, drop-cons a i 0 h, drop-cons b i 0 k, eq-eqb _ _ e)

  pub same_other : i < length a → i < length b → (get_or a i 0 ≡ get_or b i 0 → ⊥) → same_bytes (drop i a) (drop i b) ≡ false
  unfolding same_bytes ◌and◌
  same_other h k e = rw (drop-cons a i 0 h, drop-cons b i 0 k, ne_eqb _ _ e)

  pub same_end : length a ≤ i → length b ≤ i → same_bytes (drop i a) (drop i b) ≡ true
  unfolding same_bytes
  same_end h k = rw (drop_of_length-le a h, drop_of_length-le b k)
