-- "Script and log": which lines are steps, and which step a line is.
use Rattle.std.specs.Prelude.{List, [], ◌∷◌, Bool, true, false, cond, ℕ, eqb, ltb, leb, length, Option as Parsed, Some, None}
use Rattle.std.proofs.Math.Option.{Option, none, some}
use Rattle.lists.specs.Test.{◌and◌}
use Rattle.text.specs.Fields.{fields}
use Rattle.decimal.specs.Parse.{parsed}
use Rattle.rules.specs.Step.{Step, task, mutex, sem, start, lock, unlock, pend, post, flush, sleep, yield, hold, free, tick, level, outcome, queue, send, receive, word}
use Rattle.rules.specs.Sizes.{held_words}
use Rattle.text.specs.Ascii.{ascii}

-- a script's first line: "The first line is `kernel`, tab, `1`"
unfoldable pub header_bytes : List ℕ
header_bytes = ascii "kernel\t1"

-- "Lines over 80 bytes without the LF .. are answered 14", and document 02, K1: "Script lines may now have 160 bytes" (no step is so long:
-- WrittenLaws of `syntax`, line-short)
abbrev pub longest : ℕ
longest = 160

-- a step's name, and the step that it is with its numbers: none where the name does not take such numbers
pub record Word : Type 0 where
  pub name : List ℕ
  pub makes : List ℕ → Option Step

-- a name alone, with one number, with two
unfoldable pub alone : Step → List ℕ → Option Step
alone x [] = some x
alone x (a ∷ l) = none

unfoldable pub with_one : (ℕ → Step) → List ℕ → Option Step
with_one f [] = none
with_one f (a ∷ []) = some (f a)
with_one f (a ∷ b ∷ l) = none

unfoldable pub with_two : (ℕ → ℕ → Step) → List ℕ → Option Step
with_two f [] = none
with_two f (a ∷ []) = none
with_two f (a ∷ b ∷ []) = some (f a b)
with_two f (a ∷ b ∷ c ∷ l) = none

-- with two, and a third that may be left out: "`queue w d` or `queue w d owner`"
unfoldable pub with_two_or_three : (ℕ → ℕ → Option ℕ → Step) → List ℕ → Option Step
with_two_or_three f [] = none
with_two_or_three f (a ∷ []) = none
with_two_or_three f (a ∷ b ∷ []) = some (f a b none)
with_two_or_three f (a ∷ b ∷ c ∷ []) = some (f a b (some c))
with_two_or_three f (a ∷ b ∷ c ∷ d ∷ l) = none

-- with two and the words of a message: "`send q t` and w words", "14 for a send with no word or over 8"
unfoldable pub with_words : (ℕ → ℕ → List ℕ → Step) → List ℕ → Option Step
with_words f [] = none
with_words f (a ∷ []) = none
with_words f (a ∷ b ∷ m) = cond (ltb 0 (length m) and leb (length m) held_words) (some (f a b m)) none

-- no word takes more numbers (WrittenLaws of `syntax`, made-many): a send has two and at most eight words
abbrev pub most_numbers : ℕ
most_numbers = 10

-- "a step's name above and its numbers": the steps in the order of "Steps", then those of document 02
unfoldable pub words : List Word
words =
    record { name = ascii "task"; makes = with_one task } ∷
    record { name = ascii "mutex"; makes = with_one mutex } ∷
    record { name = ascii "sem"; makes = with_two sem } ∷
    record { name = ascii "start"; makes = alone start } ∷
    record { name = ascii "lock"; makes = with_two lock } ∷
    record { name = ascii "unlock"; makes = with_one unlock } ∷
    record { name = ascii "pend"; makes = with_two pend } ∷
    record { name = ascii "post"; makes = with_one post } ∷
    record { name = ascii "flush"; makes = with_one flush } ∷
    record { name = ascii "sleep"; makes = with_one sleep } ∷
    record { name = ascii "yield"; makes = alone yield } ∷
    record { name = ascii "hold"; makes = alone hold } ∷
    record { name = ascii "free"; makes = alone free } ∷
    record { name = ascii "tick"; makes = alone tick } ∷
    record { name = ascii "level"; makes = with_one level } ∷
    record { name = ascii "outcome"; makes = with_one outcome } ∷
    record { name = ascii "queue"; makes = with_two_or_three queue } ∷
    record { name = ascii "send"; makes = with_words send } ∷
    record { name = ascii "receive"; makes = with_two receive } ∷
    record { name = ascii "word"; makes = with_two word } ∷
    []

-- two rows of bytes are the same
unfoldable pub same_bytes : List ℕ → List ℕ → Bool
same_bytes [] [] = true
same_bytes [] (y ∷ ys) = false
same_bytes (x ∷ xs) [] = false
same_bytes (x ∷ xs) (y ∷ ys) = eqb x y and same_bytes xs ys

-- what the word with this name makes of the numbers
unfoldable pub made_by : List Word → List ℕ → List ℕ → Option Step
made_by [] n l = none
made_by (w ∷ ws) n l = cond (same_bytes n w.name) (w.makes l) (made_by ws n l)

-- "and its numbers: decimal, no sign, no needless leading zero, at most 4294967295": all of them, or none
unfoldable pub with_number : Parsed ℕ → Option (List ℕ) → Option (List ℕ)
with_number None l = none
with_number (Some n) none = none
with_number (Some n) (some l) = some (n ∷ l)

unfoldable pub numbers_of : List (List ℕ) → Option (List ℕ)
numbers_of [] = some []
numbers_of (f ∷ fs) = with_number (parsed f) (numbers_of fs)

unfoldable pub made_from : List ℕ → Option (List ℕ) → Option Step
made_from n none = none
made_from n (some l) = made_by words n l

-- the step that a row of fields is: a name, then the numbers
unfoldable pub step_in : List (List ℕ) → Option Step
step_in [] = none
step_in (n ∷ fs) = made_from n (numbers_of fs)

-- the step that a line is: "Lines over 80 bytes without the LF, empty lines and anything else are answered 14", with 160 for 80
unfoldable pub step_on : List ℕ → Option Step
step_on line = cond (leb (length line) longest) (step_in (fields line)) none
