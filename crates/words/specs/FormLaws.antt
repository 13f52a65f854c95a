-- What is read of a name and its numbers: what the word with that name makes, and nothing where no word has it or it takes other numbers.
use Rattle.std.specs.Prelude.{◌≡◌, refl, List, [], ◌∷◌, true, false, Some, None, Option as RustOption, ◌⊎◌, ℕ, suc, ◌≤◌, leb, length, get_or, Bool, cond, ◌<◌, eqb, ltb}
use Rattle.std.proofs.Common.{◌∙◌, inl, inr, arith, lt-ltb, le-leb, leb-true, sym, ne_eqb, ltb-true}
use Rattle.std.proofs.lemmas.Slice.Eq.{HasBytesAt, text_from_reads}
use Rattle.std.proofs.Math.Option.{none, some, Option}
use Rattle.lists.specs.Test.{◌and◌}
use Rattle.lists.specs.TestLaws.{which, same_test}
use Rattle.rules.specs.Step.{Step, task, mutex, sem, start, lock, unlock, pend, post, flush, sleep, yield, hold, free, tick, level, outcome, queue, send, receive, word}
use Rattle.rules.specs.Sizes.{held_words}
use Rattle.rules.specs.Answer.{is_formed}
use Rattle.record.specs.DemandRecord.{request_for}
use Rattle.record.specs.declared.Request.{Request}  -- keep
use Rattle.record.specs.declared.Request.TheVariants.{Task, Mutex, Sem, Start, Lock, Unlock, Pend, Post, Flush, Sleep, Yield, Hold, Free, Tick, Level, Outcome, Queue, OwnedQueue, Send, Receive, Word as WordOf}  -- keep
use Rattle.text.specs.Ascii.{ascii}
use Rattle.words.specs.Form.{Word, alone, with_one, with_two, with_two_or_three, with_words, most_numbers, words, same_bytes, made_by}
use Rattle.words.specs.Reading.{reading_for, reading, few_numbers}
use Rattle.words.specs.Written.{name_of, numbers_in}
use Rattle.words.specs.SameLaws.{same_equal, same_length}

-- each step is what its word makes of its numbers: a send where it has one to eight words
pub made_back : (x : Step) → is_formed x ≡ true → made_by words (name_of x) (numbers_in x) ≡ some x
unfolding ascii ◌and◌ name_of numbers_in alone with_one with_two with_two_or_three with_words words same_bytes made_by is_formed
made_back (task p) f = refl
made_back (mutex k) f = refl
made_back (sem n m) f = refl
made_back start f = refl
made_back (lock m t) f = refl
made_back (unlock m) f = refl
made_back (pend k t) f = refl
made_back (post k) f = refl
made_back (flush k) f = refl
made_back (sleep t) f = refl
made_back yield f = refl
made_back hold f = refl
made_back free f = refl
made_back tick f = refl
made_back (level i) f = refl
made_back (outcome i) f = refl
made_back (queue w d none) f = refl
made_back (queue w d (some o)) f = refl
made_back (send q t m) f = rw f
made_back (receive q t) f = refl
made_back (word i n) f = refl

-- a step where there are as many numbers as its word takes
abbrev read_if : Bool → Step → RustOption Request
read_if fits x = cond fits (Some (request_for x)) None

pub alone_read : (x : Step) (l : List ℕ) → read_if (eqb (length l) 0) x ≡ reading_for (alone x l)
unfolding alone reading_for
alone_read x [] = refl
alone_read x (a ∷ l) = rw (ne_eqb (length (a ∷ l)) 0 (λ h. omega arith))

pub one_read : (f : ℕ → Step) (l : List ℕ) {a : ℕ} → a ≡ get_or l 0 0 → read_if (eqb (length l) 1) (f a) ≡ reading_for (with_one f l)
unfolding with_one reading_for
one_read f [] e = refl
one_read f (c ∷ []) e = rw e
one_read f (c ∷ d ∷ l) e = rw (ne_eqb (length (c ∷ d ∷ l)) 1 (λ h. omega arith))

pub two_read : (f : ℕ → ℕ → Step) (l : List ℕ) {a b : ℕ} → a ≡ get_or l 0 0 → b ≡ get_or l 1 0 → read_if (eqb (length l) 2) (f a b) ≡ reading_for (with_two f l)
unfolding with_two reading_for
two_read f [] e g = refl
two_read f (c ∷ []) e g = refl
two_read f (c ∷ d ∷ []) e g = rw (e, g)
two_read f (c ∷ d ∷ i ∷ l) e g = rw (ne_eqb (length (c ∷ d ∷ i ∷ l)) 2 (λ h. omega arith))

-- a third number that may be left out: where it is, and where there is one
pub two_alone_read : (f : ℕ → ℕ → Option ℕ → Step) (l : List ℕ) {a b : ℕ} → a ≡ get_or l 0 0 → b ≡ get_or l 1 0 → length l ≡ 2
    → Some (request_for (f a b none)) ≡ reading_for (with_two_or_three f l)
unfolding with_two_or_three reading_for
two_alone_read f [] e g h = absurd (omega arith)
two_alone_read f (c ∷ []) e g h = absurd (omega arith)
two_alone_read f (c ∷ d ∷ []) e g h = rw (e, g)
two_alone_read f (c ∷ d ∷ i ∷ l) e g h = absurd (omega arith)

pub three_read : (f : ℕ → ℕ → Option ℕ → Step) (l : List ℕ) {a b k : ℕ} → a ≡ get_or l 0 0 → b ≡ get_or l 1 0 → k ≡ get_or l 2 0 → (length l ≡ 2 → ⊥)
    → read_if (eqb (length l) 3) (f a b (some k)) ≡ reading_for (with_two_or_three f l)
unfolding with_two_or_three reading_for
three_read f [] e g q h = refl
three_read f (c ∷ []) e g q h = refl
three_read f (c ∷ d ∷ []) e g q h = absurd (h refl)
three_read f (c ∷ d ∷ i ∷ []) e g q h = rw (e, g, q)
three_read f (c ∷ d ∷ i ∷ j ∷ l) e g q h = rw (ne_eqb (length (c ∷ d ∷ i ∷ j ∷ l)) 3 (λ z. omega arith))

-- words of a message: as many numbers as a send takes, whatever the words are
words_tests : (k : ℕ) → ltb 2 (suc (suc k)) and leb (suc (suc k)) most_numbers ≡ ltb 0 k and leb k held_words
words_tests k =
    let n = suc (suc k) in
    let some_word : ltb 2 n ≡ ltb 0 k = same_test _ _ (λ t. lt-ltb 0 k (omega (arith, ltb-true 2 n t))) (λ t. lt-ltb 2 n (omega (arith, ltb-true 0 k t))) in
    let none_over : leb n most_numbers ≡ leb k held_words = same_test _ _ (λ t. le-leb k held_words (omega (arith, leb-true n most_numbers t))) (λ t. le-leb n most_numbers (omega (arith, leb-true k held_words t))) in
    rw (some_word, none_over)

read_test : (b : Bool) (x y : Step) → request_for y ≡ request_for x → read_if b y ≡ reading_for (cond b (some x) none)
unfolding reading_for
read_test true x y e = rw e
read_test false x y e = refl

pub words_read : (l : List ℕ) {a b : ℕ} {fits : Bool} → fits ≡ ltb 2 (length l) and leb (length l) most_numbers → a ≡ get_or l 0 0 → b ≡ get_or l 1 0
    → read_if fits (send a b []) ≡ reading_for (with_words send l)
unfolding with_words reading_for request_for ◌and◌
words_read [] t e g = rw t
words_read (c ∷ []) t e g = rw t
words_read (c ∷ d ∷ m) t e g = rw (e, g, t ∙ words_tests (length m)) (read_test (ltb 0 (length m) and leb (length m) held_words) (send c d m) (send c d []) refl)

-- numbers that are too few or too many for a word
pub few_two : (f : ℕ → ℕ → Step) (l : List ℕ) → length l ≤ few_numbers → with_two f l ≡ none
unfolding with_two
few_two f [] h = refl
few_two f (a ∷ []) h = refl
few_two f (a ∷ b ∷ l) h = absurd (omega arith)

pub few_two_or_three : (f : ℕ → ℕ → Option ℕ → Step) (l : List ℕ) → length l ≤ few_numbers → with_two_or_three f l ≡ none
unfolding with_two_or_three
few_two_or_three f [] h = refl
few_two_or_three f (a ∷ []) h = refl
few_two_or_three f (a ∷ b ∷ l) h = absurd (omega arith)

pub few_words : (f : ℕ → ℕ → List ℕ → Step) (l : List ℕ) → length l ≤ few_numbers → with_words f l ≡ none
unfolding with_words
few_words f [] h = refl
few_words f (a ∷ []) h = refl
few_words f (a ∷ b ∷ l) h = absurd (omega arith)

pub more_alone : (x : Step) (l : List ℕ) → few_numbers < length l → alone x l ≡ none
unfolding alone
more_alone x [] h = absurd (omega arith)
more_alone x (a ∷ l) h = refl

pub more_one : (f : ℕ → Step) (l : List ℕ) → few_numbers < length l → with_one f l ≡ none
unfolding with_one
more_one f [] h = absurd (omega arith)
more_one f (a ∷ []) h = absurd (omega arith)
more_one f (a ∷ b ∷ l) h = refl

-- a name that was found to be m makes what m makes
pub read_found : (m n l : List ℕ) {o : Option Step} {b : Bool} {r : RustOption Request} → b ≡ same_bytes n m → b ≡ true → r ≡ reading_for o → made_by words m l ≡ o → r ≡ reading n l
unfolding reading
read_found m n l e t h w = rw (same_equal n m (sym e ∙ t), w) h

-- a name that is shorter than a word's, or longer
pub shorter : (k : ℕ) (n m : List ℕ) → length n ≤ k → ltb k (length m) ≡ true → same_bytes n m ≡ false
shorter k n m h e = same_length n m (λ f. omega (arith, ltb-true k (length m) e))

pub longer : (k : ℕ) (n m : List ℕ) → k < length n → leb (length m) k ≡ true → same_bytes n m ≡ false
longer k n m h e = same_length n m (λ f. omega (arith, leb-true (length m) k e))

-- a claim about each word
infixr 5 ◌also◌
pub data Each (P : Word → Type 0) : List Word → Type 0 where
  end : Each P []
  ◌also◌ : {w : Word} {ws : List Word} → P w → Each P ws → Each P (w ∷ ws)

-- the name is p: as long as p, and p's bytes stand in it
abbrev pub Is : List ℕ → List ℕ → Type 0
Is n p = (length n ≡ length p) × HasBytesAt n 0 p

stand_behind : (x : ℕ) (s p : List ℕ) (i : ℕ) → HasBytesAt s i p → HasBytesAt (x ∷ s) (suc i) p
stand_behind x s [] i h = tt
stand_behind x s (c ∷ p) i h = (h.0, stand_behind x s p (suc i) h.1)

stand_in : (p : List ℕ) → HasBytesAt p 0 p
stand_in [] = tt
stand_in (c ∷ p) = (refl, stand_behind c p p 0 (stand_in p))

other : (n p : List ℕ) → (Is n p → ⊥) → same_bytes n p ≡ false
other n p h = elim (which (same_bytes n p)) [ inl e ↦ absurd (h (rw (same_equal n p e) (refl, stand_in p))) | inr e ↦ e ]

named : (p n l : List ℕ) → Is n p → reading n l ≡ reading p l
named p n l h = rw (text_from_reads n p h.0 h.1)

-- a name that is another than the word's, or numbers that the word does not take
abbrev Unmade : List ℕ → List ℕ → Word → Type 0
Unmade n l w = (same_bytes n w.name ≡ false) ⊎ (w.makes l ≡ none)

none_made : (n l : List ℕ) {ws : List Word} → Each (Unmade n l) ws → made_by ws n l ≡ none
unfolding made_by
none_made n l end = refl
none_made n l (inl e also p) = rw e (none_made n l p)
none_made n l (◌also◌ {w} {ws} (inr e) p) = elim (which (same_bytes n w.name)) [ inl s ↦ rw s e | inr s ↦ rw s (none_made n l p) ]

pub read_none : (n l : List ℕ) → Each (Unmade n l) words → reading n l ≡ None
unfolding reading_for reading
read_none n l p = rw (none_made n l p)

-- a name alone: the words that take so many, and no other
pub start_read : (n : List ℕ) → Is n (ascii "start") → reading n [] ≡ Some Start
unfolding ascii ◌and◌ request_for words same_bytes made_by reading_for reading alone
start_read n h = named (ascii "start") n [] h

pub yield_read : (n : List ℕ) → Is n (ascii "yield") → reading n [] ≡ Some Yield
unfolding ascii ◌and◌ request_for words same_bytes made_by reading_for reading alone
yield_read n h = named (ascii "yield") n [] h

pub hold_read : (n : List ℕ) → Is n (ascii "hold") → reading n [] ≡ Some Hold
unfolding ascii ◌and◌ request_for words same_bytes made_by reading_for reading alone
hold_read n h = named (ascii "hold") n [] h

pub free_read : (n : List ℕ) → Is n (ascii "free") → reading n [] ≡ Some Free
unfolding ascii ◌and◌ request_for words same_bytes made_by reading_for reading alone
free_read n h = named (ascii "free") n [] h

pub tick_read : (n : List ℕ) → Is n (ascii "tick") → reading n [] ≡ Some Tick
unfolding ascii ◌and◌ request_for words same_bytes made_by reading_for reading alone
tick_read n h = named (ascii "tick") n [] h

pub alone_none : (n : List ℕ) → (Is n (ascii "start") → ⊥) → (Is n (ascii "yield") → ⊥) → (Is n (ascii "hold") → ⊥) → (Is n (ascii "free") → ⊥) → (Is n (ascii "tick") → ⊥) → reading n [] ≡ None
unfolding words alone with_one with_two with_two_or_three with_words
alone_none n d e f g h = read_none n [] (inr refl also inr refl also inr refl also inl (other n _ d) also inr refl also inr refl also inr refl also inr refl also inr refl also inr refl also inl (other n _ e) also inl (other n _ f) also inl (other n _ g) also inl (other n _ h) also inr refl also inr refl also inr refl also inr refl also inr refl also inr refl also end)

pub ruleset alone_words = (start_read, yield_read, hold_read, free_read, tick_read, alone_none)

-- a name with one number: the words that take so many, and no other
pub task_read : (n : List ℕ) (a : ℕ) → Is n (ascii "task") → reading n (a ∷ []) ≡ Some (Task a)
unfolding ascii ◌and◌ request_for words same_bytes made_by reading_for reading with_one
task_read n a h = named (ascii "task") n (a ∷ []) h

pub mutex_read : (n : List ℕ) (a : ℕ) → Is n (ascii "mutex") → reading n (a ∷ []) ≡ Some (Mutex a)
unfolding ascii ◌and◌ request_for words same_bytes made_by reading_for reading with_one
mutex_read n a h = named (ascii "mutex") n (a ∷ []) h

pub unlock_read : (n : List ℕ) (a : ℕ) → Is n (ascii "unlock") → reading n (a ∷ []) ≡ Some (Unlock a)
unfolding ascii ◌and◌ request_for words same_bytes made_by reading_for reading with_one
unlock_read n a h = named (ascii "unlock") n (a ∷ []) h

pub post_read : (n : List ℕ) (a : ℕ) → Is n (ascii "post") → reading n (a ∷ []) ≡ Some (Post a)
unfolding ascii ◌and◌ request_for words same_bytes made_by reading_for reading with_one
post_read n a h = named (ascii "post") n (a ∷ []) h

pub flush_read : (n : List ℕ) (a : ℕ) → Is n (ascii "flush") → reading n (a ∷ []) ≡ Some (Flush a)
unfolding ascii ◌and◌ request_for words same_bytes made_by reading_for reading with_one
flush_read n a h = named (ascii "flush") n (a ∷ []) h

pub sleep_read : (n : List ℕ) (a : ℕ) → Is n (ascii "sleep") → reading n (a ∷ []) ≡ Some (Sleep a)
unfolding ascii ◌and◌ request_for words same_bytes made_by reading_for reading with_one
sleep_read n a h = named (ascii "sleep") n (a ∷ []) h

pub level_read : (n : List ℕ) (a : ℕ) → Is n (ascii "level") → reading n (a ∷ []) ≡ Some (Level a)
unfolding ascii ◌and◌ request_for words same_bytes made_by reading_for reading with_one
level_read n a h = named (ascii "level") n (a ∷ []) h

pub outcome_read : (n : List ℕ) (a : ℕ) → Is n (ascii "outcome") → reading n (a ∷ []) ≡ Some (Outcome a)
unfolding ascii ◌and◌ request_for words same_bytes made_by reading_for reading with_one
outcome_read n a h = named (ascii "outcome") n (a ∷ []) h

pub one_none : (n : List ℕ) (a : ℕ) → (Is n (ascii "task") → ⊥) → (Is n (ascii "mutex") → ⊥) → (Is n (ascii "unlock") → ⊥) → (Is n (ascii "post") → ⊥) → (Is n (ascii "flush") → ⊥) → (Is n (ascii "sleep") → ⊥) → (Is n (ascii "level") → ⊥) → (Is n (ascii "outcome") → ⊥) → reading n (a ∷ []) ≡ None
unfolding words alone with_one with_two with_two_or_three with_words
one_none n a d e f g h i j k = read_none n (a ∷ []) (inl (other n _ d) also inl (other n _ e) also inr refl also inr refl also inr refl also inl (other n _ f) also inr refl also inl (other n _ g) also inl (other n _ h) also inl (other n _ i) also inr refl also inr refl also inr refl also inr refl also inl (other n _ j) also inl (other n _ k) also inr refl also inr refl also inr refl also inr refl also end)

pub ruleset one_words = (task_read, mutex_read, unlock_read, post_read, flush_read, sleep_read, level_read, outcome_read, one_none)

-- a name with two: the words that take so many, and no other
pub sem_read : (n : List ℕ) (a b : ℕ) → Is n (ascii "sem") → reading n (a ∷ b ∷ []) ≡ Some (Sem a b)
unfolding ascii ◌and◌ request_for words same_bytes made_by reading_for reading with_two with_two_or_three
sem_read n a b h = named (ascii "sem") n (a ∷ b ∷ []) h

pub lock_read : (n : List ℕ) (a b : ℕ) → Is n (ascii "lock") → reading n (a ∷ b ∷ []) ≡ Some (Lock a b)
unfolding ascii ◌and◌ request_for words same_bytes made_by reading_for reading with_two with_two_or_three
lock_read n a b h = named (ascii "lock") n (a ∷ b ∷ []) h

pub pend_read : (n : List ℕ) (a b : ℕ) → Is n (ascii "pend") → reading n (a ∷ b ∷ []) ≡ Some (Pend a b)
unfolding ascii ◌and◌ request_for words same_bytes made_by reading_for reading with_two with_two_or_three
pend_read n a b h = named (ascii "pend") n (a ∷ b ∷ []) h

pub queue_read : (n : List ℕ) (a b : ℕ) → Is n (ascii "queue") → reading n (a ∷ b ∷ []) ≡ Some (Queue a b)
unfolding ascii ◌and◌ request_for words same_bytes made_by reading_for reading with_two with_two_or_three
queue_read n a b h = named (ascii "queue") n (a ∷ b ∷ []) h

pub receive_read : (n : List ℕ) (a b : ℕ) → Is n (ascii "receive") → reading n (a ∷ b ∷ []) ≡ Some (Receive a b)
unfolding ascii ◌and◌ request_for words same_bytes made_by reading_for reading with_two with_two_or_three
receive_read n a b h = named (ascii "receive") n (a ∷ b ∷ []) h

pub word_read : (n : List ℕ) (a b : ℕ) → Is n (ascii "word") → reading n (a ∷ b ∷ []) ≡ Some (WordOf a b)
unfolding ascii ◌and◌ request_for words same_bytes made_by reading_for reading with_two with_two_or_three
word_read n a b h = named (ascii "word") n (a ∷ b ∷ []) h

pub two_none : (n : List ℕ) (a b : ℕ) → (Is n (ascii "sem") → ⊥) → (Is n (ascii "lock") → ⊥) → (Is n (ascii "pend") → ⊥) → (Is n (ascii "queue") → ⊥) → (Is n (ascii "receive") → ⊥) → (Is n (ascii "word") → ⊥) → reading n (a ∷ b ∷ []) ≡ None
unfolding ◌and◌ words alone with_one with_two with_two_or_three with_words
two_none n a b d e f g h i = read_none n (a ∷ b ∷ []) (inr refl also inr refl also inl (other n _ d) also inr refl also inl (other n _ e) also inr refl also inl (other n _ f) also inr refl also inr refl also inr refl also inr refl also inr refl also inr refl also inr refl also inr refl also inr refl also inl (other n _ g) also inr refl also inl (other n _ h) also inl (other n _ i) also end)

pub ruleset two_words = (sem_read, lock_read, pend_read, queue_read, receive_read, word_read, two_none)

-- a name with more: a queue with its owner, and a send with one to eight words
pub owned_read : (n l : List ℕ) → Is n (ascii "queue") → length l ≡ 3 → reading n l ≡ Some (OwnedQueue (get_or l 0 0) (get_or l 1 0) (get_or l 2 0))
unfolding ascii ◌and◌ request_for words same_bytes made_by reading_for reading with_two_or_three
owned_read n l h e = named (ascii "queue") n l h ∙ three l e where
  three : (l : List ℕ) → length l ≡ 3 → reading (ascii "queue") l ≡ Some (OwnedQueue (get_or l 0 0) (get_or l 1 0) (get_or l 2 0))
  three [] e = absurd (omega arith)
  three (a ∷ []) e = absurd (omega arith)
  three (a ∷ b ∷ []) e = absurd (omega arith)
  three (a ∷ b ∷ c ∷ []) e = refl
  three (a ∷ b ∷ c ∷ d ∷ l) e = absurd (omega arith)

pub send_read : (n l : List ℕ) → Is n (ascii "send") → 3 ≤ length l → length l ≤ most_numbers → reading n l ≡ Some (Send (get_or l 0 0) (get_or l 1 0))
unfolding ascii ◌and◌ request_for words same_bytes made_by reading_for reading with_words
send_read n l h e g = named (ascii "send") n l h ∙ three l e g where
  three : (l : List ℕ) → 3 ≤ length l → length l ≤ most_numbers → reading (ascii "send") l ≡ Some (Send (get_or l 0 0) (get_or l 1 0))
  three [] e g = absurd (omega arith)
  three (a ∷ []) e g = absurd (omega arith)
  three (a ∷ b ∷ m) e g = rw (lt-ltb 0 (length m) (omega arith), le-leb (length m) held_words (omega arith))

unowned : (n : List ℕ) (a b c : ℕ) (l : List ℕ) → (Is n (ascii "queue") → length (a ∷ b ∷ c ∷ l) ≡ 3 → ⊥) → Unmade n (a ∷ b ∷ c ∷ l) (record { name = ascii "queue"; makes = with_two_or_three queue })
unfolding with_two_or_three
unowned n a b c [] o = inl (other n _ (λ i. o i refl))
unowned n a b c (d ∷ l) o = inr refl

unsent : (n : List ℕ) (a b c : ℕ) (l : List ℕ) → (Is n (ascii "send") → length (a ∷ b ∷ c ∷ l) ≤ most_numbers → ⊥) → Unmade n (a ∷ b ∷ c ∷ l) (record { name = ascii "send"; makes = with_words send })
unfolding ◌and◌ with_words
unsent n a b c l s = elim (which (leb (length (c ∷ l)) held_words)) [
  | inl e ↦ inl (other n _ (λ i. s i (omega (arith, leb-true (length (c ∷ l)) held_words e))))
  | inr e ↦ inr (rw (lt-ltb 0 (length (c ∷ l)) (omega arith), e))
]

pub more_none : (n l : List ℕ) → 3 ≤ length l → (Is n (ascii "queue") → length l ≡ 3 → ⊥) → (Is n (ascii "send") → length l ≤ most_numbers → ⊥) → reading n l ≡ None
unfolding words alone with_one with_two
more_none n [] h o s = absurd (omega arith)
more_none n (a ∷ []) h o s = absurd (omega arith)
more_none n (a ∷ b ∷ []) h o s = absurd (omega arith)
more_none n (a ∷ b ∷ c ∷ l) h o s = read_none n (a ∷ b ∷ c ∷ l) (inr refl also inr refl also inr refl also inr refl also inr refl also inr refl also inr refl also inr refl also inr refl also inr refl also inr refl also inr refl also inr refl also inr refl also inr refl also inr refl also unowned n a b c l o also unsent n a b c l s also inr refl also inr refl also end)

pub ruleset more_words = (owned_read, send_read, more_none)
