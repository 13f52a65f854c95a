-- The words that tasks hold, joined to one list and taken apart again.
use Rattle.std.specs.Prelude.{◌≡◌, ℕ, zero, suc, ◌+◌, ◌-◌, ◌*◌, ◌<◌, ◌≤◌, true, List, [], ◌∷◌, ◌++◌, length, get_or, take, drop, replicate, slice_index, slice_index_or, slice_set, refl}
use Rattle.std.proofs.Math.Path.{ap, sym}
use Rattle.std.proofs.Common.{◌∙◌, append_assoc, append-nil, inl, inr, arith, take_at, take-add, get_or-take, get_or-drop, ltb-true, eqb-true, lt-ltb, eq-eqb}
use Rattle.std.proofs.Math.Decide.{dec_lt}
use Rattle.std.proofs.Math.ListN.{length-append, get_or-eq_default}
use Rattle.std.proofs.Math.Seq.{drop-append-add}
use Rattle.lists.specs.Table.{pad, filled}
use Rattle.lists.specs.TestLaws.{and_l, and_r, true_and, or_true, all_true, true_all, or_l, or_r}
use Rattle.lists.specs.TableLaws.{get_d_filled, filled_is, pad_take, length_pad, get_d_pad}
use Rattle.rules.specs.Sizes.{max_tasks, task_places, held_words}
use Rattle.rules.specs.Tables.{Tables, task_count, words_of}
use Rattle.rules.specs.Invariant.{Facts}
use Rattle.rules.specs.Effect.{held_for, add_task, hands}
use Rattle.record.specs.ColumnLaws.{pad_ext}
use Rattle.rings.specs.Words.{laid}
use Rattle.rings.proofs.WordsLaws.{length_laid, laid_word}
use Rattle.rings.specs.Held.{held_by, held}
use Rattle.rings.proofs.HeldLaws.{length_held, held_set}
use Rattle.record.specs.Record.{joined, pack_words, view_tables}
use Rattle.record.specs.Whole.{whole}
use Rattle.record.specs.SoundRecord.{words_tidyb, tidyb}
use Rattle.record.specs.GoodRecord.{WordsTyped}
use Rattle.record.specs.TidyLaws.{tasks_fit}
use Rattle.record.specs.declared.State.{State}  -- keep

-- each task holds eight words
abbrev Eights : List (List ℕ) → Type 0
Eights ls = (i : ℕ) → i < length ls → length (slice_index_or ls i []) ≡ held_words

length_joined : (ls : List (List ℕ)) → Eights ls → length (joined ls) ≡ held_words * length ls
unfolding joined
length_joined [] h = refl
length_joined (l ∷ ls) h = omega (arith, length-append l (joined ls), h 0 (omega arith), length_joined ls (λ i k. h (suc i) (omega arith)))

-- the i-th eight words of all of them, whatever stands behind
eight_at : (ls : List (List ℕ)) (z : List ℕ) → Eights ls → (i : ℕ) → i < length ls → take held_words (drop (held_words * i) (joined ls ++ z)) ≡ slice_index_or ls i []
unfolding joined
eight_at [] z h i k = absurd (omega arith)
eight_at (l ∷ ls) z h zero k = ap (take held_words) (append_assoc l (joined ls) z) ∙ take_at l (joined ls ++ z) held_words (h 0 (omega arith))
eight_at (l ∷ ls) z h (suc i) k =
    let e : held_words * suc i ≡ length l + held_words * i = omega (arith, h 0 (omega arith)) in
    ap (λ n. take held_words (drop n ((l ++ joined ls) ++ z))) e
    ∙ ap (λ w. take held_words (drop (length l + held_words * i) w)) (append_assoc l (joined ls) z)
    ∙ ap (take held_words) (drop-append-add l (joined ls ++ z) (held_words * i))
    ∙ eight_at ls z (λ j q. h (suc j) (omega arith)) i (omega arith)

-- zeros behind a list read as nothing does
zeros_behind : (l : List ℕ) (i : ℕ) → slice_index (l ++ pad held_words 0 []) i ≡ slice_index l i
unfolding pad
zeros_behind l i =
    let e : length l + held_words - length l ≡ held_words = omega arith in
    sym (ap (λ n. slice_index (l ++ replicate n 0) i) e) ∙ get_d_pad (length l + held_words) 0 l i

joined_snoc : (ls : List (List ℕ)) (l : List ℕ) → joined (ls ++ (l ∷ [])) ≡ joined ls ++ l
unfolding joined
joined_snoc [] l = append-nil l
joined_snoc (x ∷ ls) l = ap (x ++◌) (joined_snoc ls l) ∙ sym (append_assoc x (joined ls) l)

-- the eight words of each of the first n tasks, joined
joined_parts : (ws : List ℕ) (n : ℕ) → joined (filled n (held_by ws)) ≡ take (held_words * n) ws
unfolding joined filled
joined_parts ws zero = refl
joined_parts ws (suc n) =
    let e : held_words * n + held_words ≡ held_words * suc n = omega arith in
    joined_snoc (filled n (held_by ws)) (held_by ws n) ∙ ap (λ l. l ++ held_by ws n) (joined_parts ws n) ∙ sym (take-add (held_words * n) held_words ws) ∙ ap (λ k. take k ws) e

-- words behind those of the first n tasks stay 0 where some of theirs are overwritten
words_still : (ws : List ℕ) (at : ℕ) (l : List ℕ) (n : ℕ) → at + length l ≤ length ws → at + length l ≤ held_words * n → words_tidyb ws n ≡ true → words_tidyb (laid ws at l) n ≡ true
unfolding words_tidyb
words_still ws at l n h k e = true_and _ _ (eq-eqb _ _ (length_laid ws at l h ∙ eqb-true _ _ (and_l _ _ e))) (true_all (held_words * task_places) _ (λ j q. elim (dec_lt j (held_words * n)) [
  | yes u ↦ or_l _ _ (lt-ltb j (held_words * n) u)
  | no u ↦ or_r _ _ (eq-eqb _ _ (laid_word ws at l h j (inr (omega arith)) ∙ elim (or_true _ _ (all_true (held_words * task_places) _ (and_r _ _ e) j q)) [
    | inl v ↦ absurd (omega (arith, ltb-true j (held_words * n) v))
    | inr v ↦ eqb-true _ _ v
  ]))
]))

-- what the packed words of a sound state hold, task by task
module _ (t : Tables) (F : Facts t) where
  eights : Eights t.tasks.words
  eights i h = F.words i (omega (arith, F.word_column))

  short : length (joined t.tasks.words) ≤ held_words * task_places
  short = omega (arith, length_joined t.tasks.words eights, F.word_column, F.few_tasks)

  pub words_typed : WordsTyped (pack_words t)
  unfolding pack_words
  words_typed = length_pad (held_words * task_places) 0 (joined t.tasks.words) short

  pub words_back : filled (task_count t) (held_by (pack_words t)) ≡ t.tasks.words
  unfolding pack_words pad
  words_back = filled_is (task_count t) (held_by (pack_words t)) [] t.tasks.words F.word_column (λ i h. eight_at t.tasks.words _ eights i (omega (arith, F.word_column)))

  pub words_tidy : words_tidyb (pack_words t) (task_count t) ≡ true
  unfolding words_tidyb pack_words
  words_tidy = true_and _ _ (eq-eqb _ _ words_typed) (true_all (held_words * task_places) _ (λ j h. elim (dec_lt j (held_words * task_count t)) [
    | yes q ↦ or_l _ _ (lt-ltb j (held_words * task_count t) q)
    | no q ↦ (let b : length (joined t.tasks.words) ≤ j = omega (arith, length_joined t.tasks.words eights, F.word_column) in
        or_r _ _ (eq-eqb _ _ (get_d_pad (held_words * task_places) 0 (joined t.tasks.words) j ∙ get_or-eq_default (joined t.tasks.words) 0 b)))
  ]))

-- eight words for each of the first n tasks, and 0 behind them, are those words joined
pub words_flat : (ws : List ℕ) (n : ℕ) → WordsTyped ws → n ≤ task_places → words_tidyb ws n ≡ true → pad (held_words * task_places) 0 (joined (filled n (held_by ws))) ≡ ws
unfolding words_tidyb
words_flat ws n T few e = ap (pad (held_words * task_places) 0) (joined_parts ws n)
    ∙ pad_take (held_words * task_places) 0 (held_words * n) ws (omega arith) T (λ j h l. elim (or_true _ _ (all_true (held_words * task_places) _ (and_r _ _ e) j l)) [
      | inl u ↦ absurd (omega (arith, ltb-true j (held_words * n) u))
      | inr u ↦ eqb-true _ _ u
    ])

-- there are as many as tasks may hold
pub words_many : (ws : List ℕ) (n : ℕ) → words_tidyb ws n ≡ true → WordsTyped ws
unfolding words_tidyb
words_many ws n e = eqb-true _ _ (and_l _ _ e)

-- the words of a record are the packed words of what it stands for
pub words_pack : (k : State) (ws b : List ℕ) → WordsTyped ws → tidyb k ≡ true → words_tidyb ws k.tasks.n ≡ true → pack_words (view_tables (whole k ws b)) ≡ ws
unfolding pack_words view_tables
words_pack k ws b T tidy e = words_flat ws k.tasks.n T (tasks_fit k tidy) e

-- one task's words, and one word of them
module _ (t : Tables) (F : Facts t) where
  pub held_packed : (i : ℕ) → i < task_count t → held_by (pack_words t) i ≡ words_of t i
  held_packed i h = sym (get_d_filled (task_count t) (held_by (pack_words t)) [] i h) ∙ ap (λ l. get_or l i []) (words_back t F)

  pub word_packed : (i n : ℕ) → i < task_count t → n < held_words → slice_index (pack_words t) (held_words * i + n) ≡ slice_index (words_of t i) n
  word_packed i n h k = sym (get_or-drop (held_words * i) (pack_words t) n 0) ∙ sym (get_or-take held_words (drop (held_words * i) (pack_words t)) n 0 k) ∙ ap (λ l. slice_index l n) (held_packed i h)

  -- a task that gets a message to hold
  pub hold_packed : (i : ℕ) (m : List ℕ) → i < task_count t → length m ≤ held_words → held (pack_words t) i m ≡ pack_words (hands t i m)
  unfolding pack_words held_for
  hold_packed i m h fits =
      sym (words_flat new (task_count t) (length_held (pack_words t) i m place fits ∙ words_typed t F) F.few_tasks tidy)
      ∙ ap (λ l. pad (held_words * task_places) 0 (joined l)) (held_set (pack_words t) i m (task_count t) h (omega (arith, words_typed t F, F.few_tasks)) fits ∙ ap (λ l. slice_set l i (held_for m)) (words_back t F))
    where
      new : List ℕ
      new = held (pack_words t) i m

      place : held_words * i + held_words ≤ length (pack_words t)
      place = omega (arith, words_typed t F, F.few_tasks)

      own : length (pad held_words 0 m) ≡ held_words
      own = length_pad held_words 0 m fits

      tidy : words_tidyb new (task_count t) ≡ true
      tidy = words_still (pack_words t) (held_words * i) (pad held_words 0 m) (task_count t) (omega (arith, own, words_typed t F, F.few_tasks)) (omega (arith, own)) (words_tidy t F)

  -- a new task holds zeros, as an unused place does
  pub words_added : (p : ℕ) → task_count t < max_tasks → pack_words (add_task t p) ≡ pack_words t
  unfolding pack_words held_for
  words_added p room = ap (pad (held_words * task_places) 0) (joined_snoc t.tasks.words (pad held_words 0 []))
      ∙ pad_ext (held_words * task_places) 0 (joined t.tasks.words ++ pad held_words 0 []) (joined t.tasks.words)
      (omega (arith, length-append (joined t.tasks.words) (pad held_words 0 []), length_pad {A = ℕ} held_words 0 [] (omega arith), size)) (omega (arith, size)) (λ i. zeros_behind (joined t.tasks.words) i)
    where
      size : length (joined t.tasks.words) + held_words ≤ held_words * task_places
      size = omega (arith, length_joined t.tasks.words (eights t F), F.word_column)
