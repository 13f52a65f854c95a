-- A test of every number below a bound, made number by number in a loop: the start, one turn, the end, and one that fails.
use Rattle.std.specs.Prelude.{◌≡◌, Bool, true, false, not, ℕ, ◌+◌, ◌<◌}
use Rattle.std.proofs.Math.Path.{refl}
use Rattle.std.proofs.Common.{sym, ◌∙◌, inl, inr}
use Rattle.std.proofs.Math.Numerals.{add-one}
use Rattle.std.proofs.lemmas.Bool.{not-true, not-false}
use Rattle.lists.specs.Test.{allb, ◌and◌}
use Rattle.lists.specs.TestLaws.{which, clash, true_and, all_true}

-- what a call answers of a test, after `if !call`
pub test_passed : {r b : Bool} → r ≡ b → not r ≡ false → b ≡ true
test_passed {r} e h = sym e ∙ not-false r h

pub test_failed : {r b : Bool} → r ≡ b → not r ≡ true → b ≡ false
test_failed {r} e h = sym e ∙ not-true r h

module _ (p : ℕ → Bool) where
  pub fits_more : (j : ℕ) (fits next : Bool) → fits ≡ allb j p → next ≡ p j and fits → next ≡ allb (j + 1) p
  unfolding allb
  fits_more j fits next e q = rw (add-one, ← e) q

  pub fits_done : (j n : ℕ) (fits : Bool) → j ≡ n → fits ≡ allb j p → fits ≡ allb n p
  fits_done j n fits q e = rw (← q) e

  pub all_none : true ≡ allb 0 p
  unfolding allb
  all_none = refl

  pub all_step : (j : ℕ) → true ≡ allb j p → true ≡ p j → true ≡ allb (j + 1) p
  unfolding allb
  all_step j e h = rw add-one (sym (true_and (p j) (allb j p) (sym h) (sym e)))

  pub all_done : (j n : ℕ) → n ≡ j → true ≡ allb j p → true ≡ allb n p
  all_done j n q e = rw q e

  pub all_fails : (j n : ℕ) → j < n → false ≡ p j → false ≡ allb n p
  all_fails j n h e = elim (which (allb n p)) [ inl t ↦ absurd (clash (all_true n p t j h) (sym e)) | inr t ↦ sym t ]

  -- a turn by a call that answers the test
  pub all_turn : {r : Bool} (j : ℕ) → true ≡ allb j p → r ≡ p j → not r ≡ false → true ≡ allb (j + 1) p
  all_turn j e q h = all_step j e (sym (test_passed q h))

  pub all_stop : {r : Bool} (j n : ℕ) → j < n → r ≡ p j → not r ≡ true → false ≡ allb n p
  all_stop j n l q h = all_fails j n l (sym (test_failed q h))
