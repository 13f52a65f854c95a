-- A table of any size filled place by place: the start, one more place, the end.
use Rattle.std.specs.Prelude.{◌≡◌, List, ◌++◌, ℕ, ◌+◌, ◌<◌, set, drop, replicate}
use Rattle.std.proofs.Math.Path.{refl}
use Rattle.std.proofs.Common.{◌∙◌, arith, add-one}
use Rattle.std.proofs.lemmas.List.{length-replicate}
use Rattle.lists.specs.Table.{filled}
use Rattle.lists.specs.TableLaws.{fill_step, fill_end}

-- a table of N places that held d, its first i places filled
abbrev pub so_far : ℕ → (ℕ → ℕ) → ℕ → ℕ → List ℕ
so_far N g d i = filled i g ++ drop i (replicate N d)

module _ (N : ℕ) (g : ℕ → ℕ) (d : ℕ) where
  pub fill_none : replicate N d ≡ so_far N g d 0
  unfolding filled
  fill_none = refl

  pub fill_more : (f : List ℕ) (i v : ℕ) → i < N → f ≡ so_far N g d i → v ≡ g i → set f i v ≡ so_far N g d (i + 1)
  fill_more f i v h e q = rw (e, q, add-one) (fill_step i g (replicate N d) (omega (arith, length-replicate N d)))

  pub fill_done : (f : List ℕ) (i : ℕ) → i ≡ N → f ≡ so_far N g d i → f ≡ filled N g
  fill_done f i n e = e ∙ rw n (fill_end N g (replicate N d) (length-replicate N d))
