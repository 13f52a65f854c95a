-- Laws of a table filled by a function: its last place, its first, and one place changed.
use Rattle.std.specs.Prelude.{◌≡◌, get_or, set}
use Rattle.std.proofs.Math.Path.{refl, ap}
use Rattle.std.proofs.Common.{sym, ◌∙◌, arith, length-set, ext_get_or, get_or-set_same, get_or-set_other}
use mathlib.Core.List.{List, [], ◌∷◌, ◌++◌}
use Prim.Native.Nat.{ℕ, zero, suc, ◌<◌}
use Rattle.std.proofs.Math.Decide.{ℕ_discrete}
use Rattle.lists.specs.Table.{filled}
use Rattle.lists.specs.TableLaws.{length_filled, get_d_filled}

module _ {A : Type 0} where
  pub filled_snoc : (n : ℕ) (f : ℕ → A) → filled (suc n) f ≡ filled n f ++ (f n ∷ [])
  unfolding filled
  filled_snoc n f = refl

  pub filled_cons : (n : ℕ) (f : ℕ → A) → filled (suc n) f ≡ f 0 ∷ filled n (λ i. f (suc i))
  unfolding filled
  filled_cons zero f = refl
  filled_cons (suc n) f = ap (λ (l : List A). l ++ (f (suc n) ∷ [])) (filled_cons n f)

  -- two functions that differ at one place
  pub filled_set : (n : ℕ) (f g : ℕ → A) (i : ℕ) (x : A) → i < n → g i ≡ x → ((j : ℕ) → (j ≡ i → ⊥) → g j ≡ f j)
      → filled n g ≡ set (filled n f) i x
  filled_set n f g i x h e o = ext_get_or x (filled n g) (set (filled n f) i x)
      (length_filled n g ∙ sym (length-set (filled n f) i x ∙ length_filled n f))
      (λ j k. at j (omega (arith, length_filled n g)))
    where
      at : (j : ℕ) → j < n → get_or (filled n g) j x ≡ get_or (set (filled n f) i x) j x
      at j l = get_d_filled n g x j l ∙ elim (ℕ_discrete j i) [
        | yes q ↦ rw q (e ∙ sym (get_or-set_same (filled n f) i x x (omega (arith, length_filled n f))))
        | no q ↦ o j q ∙ sym (get_or-set_other (filled n f) i j x x q ∙ get_d_filled n f x j l)
      ]
