-- Laws of the message beside a request: it makes the request's step whole, has at most eight words, and is read word by word.
use Rattle.std.specs.Prelude.{◌≡◌, refl, List, [], ◌++◌, true, Some, None, Option as RustOption, ℕ, ◌≤◌, leb, min, length, replicate, take, drop, ◌∷◌, ◌+◌, ◌<◌, get_or, set}
use Rattle.std.proofs.Common.{ap, sym, ◌∙◌, inl, inr, arith, take_all, length-take-le, leb-true, leb-false, add-one, length-drop, take-suc, get_or-drop}
use Rattle.std.proofs.lemmas.List.{drop-replicate}
use Rattle.std.proofs.Math.Option.{Option, none, some}
use Rattle.lists.specs.Table.{pad}
use Rattle.lists.specs.TestLaws.{which, and_r}
use Rattle.rules.specs.Step.{Step, task, mutex, sem, start, lock, unlock, pend, post, flush, sleep, yield, hold, free, tick, level, outcome, queue, send, receive, word}
use Rattle.rules.specs.Sizes.{held_words}
use Rattle.rules.specs.Answer.{is_formed}
use Rattle.record.specs.StepRecord.{step_for}
use Rattle.record.specs.DemandRecord.{request_for, message_for}
use Rattle.record.specs.declared.Request.{Request}  -- keep
use Rattle.record.specs.declared.Request.TheVariants.{Task, Mutex, Sem, Start, Lock, Unlock, Pend, Post, Flush, Sleep, Yield, Hold, Free, Tick, Level, Outcome, Queue, OwnedQueue, Send, Receive, Word as WordOf}  -- keep
use Rattle.words.specs.Form.{words, made_by}
use Rattle.words.specs.Reading.{reading_for, reading, message_on, words_in, message_in, message_with}
use Rattle.words.specs.Written.{numbers_in}
use Rattle.words.specs.MadeLaws.{made_good}
use Rattle.lists.specs.TableLaws.{pad_snoc}

-- a step is its request with its message
pub step_back : (x : Step) → step_for (request_for x) (message_for x) ≡ x
unfolding step_for request_for message_for
step_back (task p) = refl
step_back (mutex k) = refl
step_back (sem n m) = refl
step_back start = refl
step_back (lock m t) = refl
step_back (unlock m) = refl
step_back (pend k t) = refl
step_back (post k) = refl
step_back (flush k) = refl
step_back (sleep t) = refl
step_back yield = refl
step_back hold = refl
step_back free = refl
step_back tick = refl
step_back (level i) = refl
step_back (outcome i) = refl
step_back (queue w d none) = refl
step_back (queue w d (some o)) = refl
step_back (send q t m) = refl
step_back (receive q t) = refl
step_back (word i n) = refl

-- "14 for a send with no word or over 8"
pub message_most : (x : Step) → is_formed x ≡ true → length (message_for x) ≤ held_words
unfolding message_for is_formed
message_most (task p) f = omega arith
message_most (mutex k) f = omega arith
message_most (sem n m) f = omega arith
message_most start f = omega arith
message_most (lock m t) f = omega arith
message_most (unlock m) f = omega arith
message_most (pend k t) f = omega arith
message_most (post k) f = omega arith
message_most (flush k) f = omega arith
message_most (sleep t) f = omega arith
message_most yield f = omega arith
message_most hold f = omega arith
message_most free f = omega arith
message_most tick f = omega arith
message_most (level i) f = omega arith
message_most (outcome i) f = omega arith
message_most (queue w d o) f = omega arith
message_most (send q t m) f = leb-true _ _ (and_r _ _ f)
message_most (receive q t) f = omega arith
message_most (word i n) f = omega arith

-- the words behind the two numbers of a formed send are its message, and no other request looks at them
words_message : (x : Step) → is_formed x ≡ true → message_for (step_for (request_for x) (words_in (numbers_in x))) ≡ message_for x
unfolding step_for request_for message_for numbers_in
words_message (task p) f = refl
words_message (mutex k) f = refl
words_message (sem n m) f = refl
words_message start f = refl
words_message (lock m t) f = refl
words_message (unlock m) f = refl
words_message (pend k t) f = refl
words_message (post k) f = refl
words_message (flush k) f = refl
words_message (sleep t) f = refl
words_message yield f = refl
words_message hold f = refl
words_message free f = refl
words_message tick f = refl
words_message (level i) f = refl
words_message (outcome i) f = refl
words_message (queue w d none) f = refl
words_message (queue w d (some o)) f = refl
words_message (send q t m) f = take_all held_words m (message_most (send q t m) f)
words_message (receive q t) f = refl
words_message (word i n) f = refl

-- so what is taken of the numbers is the message of the step that they make with the name
pub message_made : (n l : List ℕ) → message_in (reading n l) l ≡ message_on (made_by words n l)
unfolding reading reading_for message_in message_on
message_made n l = by_made (made_by words n l) refl where
  by_made : (o : Option Step) → made_by words n l ≡ o → message_in (reading_for o) l ≡ message_on o
  by_made none e = refl
  by_made (some x) e = let r = made_good n l x e in rw (← r.1) (words_message x r.2)

-- a request other than a send has no words, and no request none
pub other_words : (r : RustOption Request) (l : List ℕ) → ((q t : ℕ) → r ≡ Some (Send q t) → ⊥) → message_in r l ≡ []
unfolding message_in step_for message_for
other_words None l h = refl
other_words (Some (Task a)) l h = refl
other_words (Some (Mutex a)) l h = refl
other_words (Some (Sem a b)) l h = refl
other_words (Some Start) l h = refl
other_words (Some (Lock a b)) l h = refl
other_words (Some (Unlock a)) l h = refl
other_words (Some (Pend a b)) l h = refl
other_words (Some (Post a)) l h = refl
other_words (Some (Flush a)) l h = refl
other_words (Some (Sleep a)) l h = refl
other_words (Some Yield) l h = refl
other_words (Some Hold) l h = refl
other_words (Some Free) l h = refl
other_words (Some Tick) l h = refl
other_words (Some (Level a)) l h = refl
other_words (Some (Outcome a)) l h = refl
other_words (Some (Queue a b)) l h = refl
other_words (Some (OwnedQueue a b c)) l h = refl
other_words (Some (Send a b)) l h = absurd (h a b refl)
other_words (Some (Receive a b)) l h = refl
other_words (Some (WordOf a b)) l h = refl

pub send_words : (q t : ℕ) (l : List ℕ) → message_in (Some (Send q t)) l ≡ words_in l
unfolding message_in step_for message_for
send_words q t l = refl

pub ruleset sent_words = (other_words, send_words)

-- the words behind the two numbers, as many as there are and at most eight, laid over zeros
pub words_laid : (d : List ℕ) (n : ℕ) (w : List ℕ) → n ≡ min (length d) held_words → w ≡ take n d → record { words = w ++ drop n (replicate held_words 0); n = n } ≡ message_with (take held_words d)
unfolding pad
words_laid d n w h e =
    let all : take n d ≡ take held_words d = elim (which (leb (length d) held_words)) [
      | inl s ↦ (let k = leb-true (length d) held_words s in take_all n d (omega arith) ∙ sym (take_all held_words d k))
      | inr s ↦ (let k = leb-false (length d) held_words s in ap (λ j. take j d) (let z : n ≡ held_words = omega arith in z))
    ] in
    let size : n ≡ length (take held_words d) = sym (length-take-le n d (omega arith)) ∙ ap length all in
    rw (drop-replicate {X = ℕ} n held_words 0, e, all, ← size)

module _ (l : List ℕ) (n : ℕ) (h : n ≤ held_words) (k : n ≤ length (drop 2 l)) where
  pub words_next : n < held_words → n + 2 < length l → set (pad held_words 0 (take n (drop 2 l))) n (get_or l (n + 2) 0) ≡ pad held_words 0 (take (n + 1) (drop 2 l))
  words_next p q =
      let d = drop 2 l in
      let e : length (take n d) ≡ n = length-take-le n d k in
      let g : get_or l (n + 2) 0 ≡ get_or d n 0 = ap (λ j. get_or l j 0) (omega arith) ∙ sym (get_or-drop 2 l n 0) in
      let s : take (n + 1) d ≡ take n d ++ (get_or d n 0 ∷ []) = rw add-one (take-suc d n 0 (omega (arith, length-drop 2 l))) in
      rw (g, s) (ap (λ j. set (pad held_words 0 (take n d)) j (get_or d n 0)) (sym e) ∙ pad_snoc held_words 0 (take n d) (get_or d n 0) (omega (arith, e)))

  pub words_end : length l ≤ n + 2 → take n (drop 2 l) ≡ words_in l
  words_end q =
      let e : length (drop 2 l) ≤ n = omega (arith, length-drop 2 l) in
      take_all n (drop 2 l) e ∙ sym (take_all held_words (drop 2 l) (omega (arith, e)))

  -- how many they are
  pub words_count : (m : List ℕ) {w : List ℕ} → w ≡ pad held_words 0 (take n (drop 2 l)) → take n (drop 2 l) ≡ m → record { words = w; n = n } ≡ message_with m
  words_count m e f =
      let c : n ≡ length m = sym (length-take-le n (drop 2 l) k) ∙ ap length f in
      rw (e, f, c)
