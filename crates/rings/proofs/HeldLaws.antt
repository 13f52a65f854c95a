-- Laws of the words that tasks hold.
use Rattle.std.specs.Prelude.{◌≡◌, List, ℕ, ◌+◌, ◌*◌, ◌≤◌, ◌<◌, length, take, drop, set}
use Rattle.std.proofs.Common.{ap, sym, ◌∙◌, inl, inr, arith, take-take}
use Rattle.std.proofs.Math.Decide.{dec_lt}
use Rattle.lists.specs.Table.{filled}
use Rattle.lists.specs.TableLaws.{length_pad, take_pad}
use Rattle.rings.specs.Words.{words, padded}
use Rattle.rings.specs.Held.{eight, held_by, held}
use Rattle.rings.proofs.WordsLaws.{length_laid, laid_same, laid_other}
use Rattle.rings.proofs.FilledLaws.{filled_set}

module _ (t : List ℕ) (i : ℕ) (m : List ℕ) (place : eight * i + eight ≤ length t) (size : length m ≤ eight) where
  length_own : length (padded eight m) ≡ eight
  length_own = length_pad eight 0 m size

  fits : eight * i + length (padded eight m) ≤ length t
  fits = omega (arith, length_own)

  pub length_held : length (held t i m) ≡ length t
  length_held = length_laid t (eight * i) (padded eight m) fits

  -- the task's words are the message and then zeros
  pub held_own : held_by (held t i m) i ≡ padded eight m
  held_own =
      ap (λ (n : ℕ). words (eight * i) n (held t i m)) (sym length_own) ∙ laid_same t (eight * i) (padded eight m) fits

  -- another task's words stay
  pub held_other : (j : ℕ) → (j ≡ i → ⊥) → held_by (held t i m) j ≡ held_by t j
  held_other j ne = laid_other t (eight * i) (padded eight m) fits (eight * j) eight (elim (dec_lt j i) [
    | yes h ↦ inl (omega arith)
    | no h ↦ inr (omega (arith, length_own, ne))
  ])

-- the front of what a task holds
pub held_front : (t : List ℕ) (i width : ℕ) → width ≤ eight → words (eight * i) width t ≡ take width (held_by t i)
held_front t i width h = sym (take-take width eight (drop (eight * i) t) h)

-- a task that holds a message: the message is the front of its words
pub held_message : (t : List ℕ) (i width : ℕ) (m : List ℕ) → length m ≡ width → width ≤ eight → held_by t i ≡ padded eight m
    → words (eight * i) width t ≡ m
held_message t i width m size h e = held_front t i width h ∙ ap (take width) e ∙ take_pad eight 0 width m size

-- of the words that each task holds, those of one task change
pub held_set : (t : List ℕ) (i : ℕ) (m : List ℕ) (n : ℕ) → i < n → eight * n ≤ length t → length m ≤ eight
    → filled n (held_by (held t i m)) ≡ set (filled n (held_by t)) i (padded eight m)
held_set t i m n h fits size =
    let place : eight * i + eight ≤ length t = omega arith in
    filled_set n (held_by t) (held_by (held t i m)) i (padded eight m) h (held_own t i m place size) (held_other t i m place size)
