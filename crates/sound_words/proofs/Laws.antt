-- A test of the words from a first one on, made only as far as the lent words reach.
use mathlib.Core.Path.{◌≡◌, sym}
use mathlib.Core.Logic.{◌⊎◌, inl, inr}
use mathlib.Core.List.{List}
use mathlib.Core.Bool.{true}
use Prim.Native.Nat.{ℕ, ◌*◌, ◌≤◌, min}
use native.Mathlib.Omega.{arith}
use native.Mathlib.Decide.{dec_lt}
use lib.ListN.{length, get_or-eq_default}
use borrow.Author.Tests.{lt-ltb, eq-eqb}
use Rattle.lists.specs.Test.{allb}
use Rattle.lists.specs.TestLaws.{or_l, or_r, true_all, all_used}
use Rattle.rules.specs.Sizes.{task_places, held_words}
use Rattle.checks.specs.Checks.{unused_at}

-- the words that all tasks hold
abbrev all : ℕ
all = held_words * task_places

module _ (words : List ℕ) (first : ℕ) where
  -- the words before the first pass
  pub unused_front : true ≡ allb first (unused_at words first)
  unused_front = sym (true_all first (unused_at words first) (λ i h. or_l _ _ (lt-ltb i first h)))

  -- and so do those behind the end
  unused_behind : (k : ℕ) → k ≤ all → min (length words) all ≤ k → allb k (unused_at words first) ≡ allb all (unused_at words first)
  unused_behind k h g = sym (all_used k all (unused_at words first) h (λ i l m.
      or_r _ _ (eq-eqb _ _ (get_or-eq_default words 0 {n = i} (omega arith)))))

  -- so a test that went on to the end, or had nothing to go through, is that of all words
  pub unused_end : (k : ℕ) → (k ≤ all) ⊎ (k ≤ first) → min (length words) all ≤ k → allb k (unused_at words first) ≡ allb all (unused_at words first)
  unused_end k (inl h) g = unused_behind k h g
  unused_end k (inr h) g = elim (dec_lt k all) [
    | yes l ↦ unused_behind k (omega arith) g
    | no l ↦ all_used all k (unused_at words first) (omega arith) (λ i m n. or_l _ _ (lt-ltb i first (omega arith)))
  ]
