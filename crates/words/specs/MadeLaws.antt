-- What a word makes has the word's name, just the numbers given, and, where it is a send, one to eight words.
use Rattle.std.specs.Prelude.{◌≡◌, refl, List, [], ◌∷◌, true, ℕ, ltb, leb, length}
use Rattle.std.proofs.Common.{sym, ◌∙◌, inl, inr}
use Rattle.std.proofs.Math.Option.{Option, none, some}
use Rattle.lists.specs.Test.{◌and◌}
use Rattle.lists.specs.TestLaws.{which, none_some, some_same}
use Rattle.rules.specs.Step.{Step, task, mutex, sem, start, lock, unlock, pend, post, flush, sleep, yield, hold, free, tick, level, outcome, queue, send, receive, word}
use Rattle.rules.specs.Sizes.{held_words}
use Rattle.rules.specs.Answer.{is_formed}
use Rattle.words.specs.Form.{Word, alone, with_one, with_two, with_two_or_three, with_words, words, same_bytes, made_by}
use Rattle.words.specs.Written.{name_of, numbers_in}
use Rattle.words.specs.SameLaws.{same_equal}
use Rattle.words.specs.FormLaws.{Each, end, ◌also◌}

-- a step with this name and these numbers, and formed
abbrev Fits : List ℕ → List ℕ → Step → Type 0
Fits n l x = (name_of x ≡ n) × (numbers_in x ≡ l) × (is_formed x ≡ true)

abbrev Good : Word → Type 0
Good w = (l : List ℕ) (x : Step) → w.makes l ≡ some x → Fits w.name l x

good_alone : (n : List ℕ) (y : Step) → Fits n [] y → Good (record { name = n; makes = alone y })
unfolding alone
good_alone n y e [] x h = let k : y ≡ x = some_same h in rw k at e
good_alone n y e (a ∷ l) x h = none_some refl h

good_one : (n : List ℕ) (g : ℕ → Step) → ((a : ℕ) → Fits n (a ∷ []) (g a)) → Good (record { name = n; makes = with_one g })
unfolding with_one
good_one n g e [] x h = none_some refl h
good_one n g e (a ∷ []) x h = let k : g a ≡ x = some_same h in rw k at (e a)
good_one n g e (a ∷ b ∷ l) x h = none_some refl h

good_two : (n : List ℕ) (g : ℕ → ℕ → Step) → ((a b : ℕ) → Fits n (a ∷ b ∷ []) (g a b)) → Good (record { name = n; makes = with_two g })
unfolding with_two
good_two n g e [] x h = none_some refl h
good_two n g e (a ∷ []) x h = none_some refl h
good_two n g e (a ∷ b ∷ []) x h = let k : g a b ≡ x = some_same h in rw k at (e a b)
good_two n g e (a ∷ b ∷ c ∷ l) x h = none_some refl h

good_two_or_three : (n : List ℕ) (g : ℕ → ℕ → Option ℕ → Step) → ((a b : ℕ) → Fits n (a ∷ b ∷ []) (g a b none))
    → ((a b c : ℕ) → Fits n (a ∷ b ∷ c ∷ []) (g a b (some c))) → Good (record { name = n; makes = with_two_or_three g })
unfolding with_two_or_three
good_two_or_three n g e f [] x h = none_some refl h
good_two_or_three n g e f (a ∷ []) x h = none_some refl h
good_two_or_three n g e f (a ∷ b ∷ []) x h = let k : g a b none ≡ x = some_same h in rw k at (e a b)
good_two_or_three n g e f (a ∷ b ∷ c ∷ []) x h = let k : g a b (some c) ≡ x = some_same h in rw k at (f a b c)
good_two_or_three n g e f (a ∷ b ∷ c ∷ d ∷ l) x h = none_some refl h

good_words : (n : List ℕ) (g : ℕ → ℕ → List ℕ → Step)
    → ((a b : ℕ) (m : List ℕ) → ltb 0 (length m) and leb (length m) held_words ≡ true → Fits n (a ∷ b ∷ m) (g a b m)) → Good (record { name = n; makes = with_words g })
unfolding with_words
good_words n g e [] x h = none_some refl h
good_words n g e (a ∷ []) x h = none_some refl h
good_words n g e (a ∷ b ∷ m) x h = elim (which (ltb 0 (length m) and leb (length m) held_words)) [
  | inl t ↦ (let k : g a b m ≡ x = some_same (rw t at h) in rw k at (e a b m t))
  | inr t ↦ none_some refl (rw t at h)
]

words_good : Each Good words
unfolding words name_of numbers_in is_formed
words_good =
    good_one _ task (λ a. (refl, refl, refl)) also
    good_one _ mutex (λ a. (refl, refl, refl)) also
    good_two _ sem (λ a b. (refl, refl, refl)) also
    good_alone _ start (refl, refl, refl) also
    good_two _ lock (λ a b. (refl, refl, refl)) also
    good_one _ unlock (λ a. (refl, refl, refl)) also
    good_two _ pend (λ a b. (refl, refl, refl)) also
    good_one _ post (λ a. (refl, refl, refl)) also
    good_one _ flush (λ a. (refl, refl, refl)) also
    good_one _ sleep (λ a. (refl, refl, refl)) also
    good_alone _ yield (refl, refl, refl) also
    good_alone _ hold (refl, refl, refl) also
    good_alone _ free (refl, refl, refl) also
    good_alone _ tick (refl, refl, refl) also
    good_one _ level (λ a. (refl, refl, refl)) also
    good_one _ outcome (λ a. (refl, refl, refl)) also
    good_two_or_three _ queue (λ a b. (refl, refl, refl)) (λ a b c. (refl, refl, refl)) also
    good_words _ send (λ a b m t. (refl, refl, t)) also
    good_two _ receive (λ a b. (refl, refl, refl)) also
    good_two _ word (λ a b. (refl, refl, refl)) also
    end

good_made : (n l : List ℕ) (x : Step) {ws : List Word} → Each Good ws → made_by ws n l ≡ some x → Fits n l x
unfolding made_by
good_made n l x end h = none_some refl h
good_made n l x (◌also◌ {w} {ws} g gs) h = elim (which (same_bytes n w.name)) [
  | inl e ↦ (let r = g l x (rw e at h) in (r.0 ∙ sym (same_equal n w.name e), r.1, r.2))
  | inr e ↦ good_made n l x gs (rw e at h)
]

pub made_good : (n l : List ℕ) (x : Step) → made_by words n l ≡ some x → (name_of x ≡ n) × (numbers_in x ≡ l) × (is_formed x ≡ true)
made_good n l x h = good_made n l x words_good h
