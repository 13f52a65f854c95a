-- A formed step's line is that step, and a line that is a step is that formed step's line.
use Rattle.std.specs.Prelude.{◌≡◌, refl, List, [], ◌∷◌, ◌++◌, map, true, false, ℕ, zero, suc, ◌+◌, ◌*◌, ◌/◌, ◌≤◌, ◌<◌, eqb, ltb, leb, length, get_or, Option as Parsed, Some, None}
use Rattle.std.proofs.Common.{ap, ◌∙◌, append-nil, inl, inr, arith, length-append, ne_eqb, le-leb, leb-true}
use Rattle.std.proofs.Math.Option.{Option, none, some}
use Rattle.lists.specs.TestLaws.{which, and_r, none_some, some_same}
use Rattle.text.specs.Cut.{up_to, Free, pieces, behind, joined}
use Rattle.decimal.specs.Decimal.{last_digit, digits_within, max_digits, decimal}
use Rattle.decimal.specs.DecimalLaws.{decimal_length}
use Rattle.text.specs.Fields.{tab, fields}
use Rattle.text.specs.FieldsLaws.{fields_line}
use Rattle.decimal.specs.Parse.{most, parsed}
use Rattle.decimal.specs.ParseLaws.{parse_written, written_parse}
use Rattle.rules.specs.Step.{Step, task, mutex, sem, start, lock, unlock, pend, post, flush, sleep, yield, hold, free, tick, level, outcome, queue, send, receive, word}
use Rattle.rules.specs.Sizes.{held_words}
use Rattle.rules.specs.Answer.{is_formed}
use Rattle.text.specs.Ascii.{ascii}
use Rattle.words.specs.Form.{longest, most_numbers, words, made_by, with_number, numbers_of, made_from, step_in, step_on}
use Rattle.words.specs.Reading.{message_on}
use Rattle.words.specs.FormLaws.{made_back}
use Rattle.words.specs.MadeLaws.{made_good}
use Rattle.words.specs.MessageLaws.{message_most}
use Rattle.words.specs.Written.{name_of, numbers_in, row_of, line_of, Within, NumbersFit}

-- rows without a tab, joined by tabs and cut again
free_tail : (c : ℕ) (p : List ℕ) → Free tab (c ∷ p) → (eqb c tab ≡ false) × Free tab p
unfolding up_to
free_tail c p h = elim (which (eqb c tab)) [
  | inl e ↦ absurd (let g : [] ≡ c ∷ p = rw e at h in let z : ◌≡◌ {A = ℕ} 0 1 = cc in omega arith)
  | inr e ↦ (let g : c ∷ up_to tab p ≡ c ∷ p = rw e at h in (e, cc))
]

fields_cut : (p rest : List ℕ) → Free tab p → fields (p ++ tab ∷ rest) ≡ p ∷ fields rest
unfolding fields pieces
fields_cut [] rest h = refl
fields_cut (c ∷ p) rest h = let g = free_tail c p h in rw (g.0, fields_cut p rest g.1)

fields_one : (p : List ℕ) → Free tab p → fields p ≡ p ∷ []
unfolding fields pieces
fields_one [] h = refl
fields_one (c ∷ p) h = let g = free_tail c p h in rw (g.0, fields_one p g.1)

fields_row : (p : List ℕ) (ps : List (List ℕ)) → Free tab p → ((i : ℕ) → Free tab (get_or ps i [])) → fields (joined tab (p ∷ ps)) ≡ p ∷ ps
unfolding joined behind
fields_row p [] f h = rw (append-nil p) (fields_one p f)
fields_row p (q ∷ qs) f h = rw (fields_cut p (joined tab (q ∷ qs)) f, fields_row q qs (h 0) (λ i. h (suc i)))

-- digits are no tabs
free_append : (p q : List ℕ) → Free tab p → Free tab q → Free tab (p ++ q)
unfolding up_to
free_append [] q f g = g
free_append (c ∷ p) q f g = let t = free_tail c p f in rw (t.0, free_append p q t.1 g)

free_digit : (v : ℕ) → Free tab (last_digit v ∷ [])
unfolding up_to
free_digit v = rw (ne_eqb (last_digit v) tab (λ e. omega arith))

free_within : (n v : ℕ) → Free tab (digits_within n v)
unfolding up_to digits_within
free_within zero v = refl
free_within (suc n) v = elim (which (ltb v 10)) [
  | inl e ↦ rw e (free_digit v)
  | inr e ↦ rw e (free_append (digits_within n (v / 10)) (last_digit v ∷ []) (free_within n (v / 10)) (free_digit v))
]

free_numbers : (l : List ℕ) (i : ℕ) → Free tab (get_or (map decimal l) i [])
unfolding up_to decimal
free_numbers [] i = refl
free_numbers (v ∷ l) zero = free_within max_digits v
free_numbers (v ∷ l) (suc i) = free_numbers l i

free_name : (x : Step) → Free tab (name_of x)
unfolding ascii up_to name_of
free_name (task p) = refl
free_name (mutex k) = refl
free_name (sem n m) = refl
free_name start = refl
free_name (lock m t) = refl
free_name (unlock m) = refl
free_name (pend k t) = refl
free_name (post k) = refl
free_name (flush k) = refl
free_name (sleep t) = refl
free_name yield = refl
free_name hold = refl
free_name free = refl
free_name tick = refl
free_name (level i) = refl
free_name (outcome i) = refl
free_name (queue w d o) = refl
free_name (send q t m) = refl
free_name (receive q t) = refl
free_name (word i n) = refl

-- written numbers are read back
numbers_back : (l : List ℕ) → Within l → numbers_of (map decimal l) ≡ some l
unfolding numbers_of with_number
numbers_back [] h = refl
numbers_back (v ∷ l) h = rw (parse_written v (h 0), numbers_back l (λ i. h (suc i)))

-- a step's line has at most 114 bytes, fewer than the longest line: a send with eight words has most
numbers_length : (l : List ℕ) → length (behind tab (map decimal l)) ≤ 11 * length l
unfolding behind
numbers_length [] = omega arith
numbers_length (v ∷ l) = omega (arith, length-append (decimal v) (behind tab (map decimal l)), (decimal_length v).1, numbers_length l)

row_length : (x : Step) → is_formed x ≡ true → length (name_of x) + 11 * length (numbers_in x) ≤ 114
unfolding ascii name_of numbers_in is_formed
row_length (task p) f = omega arith
row_length (mutex k) f = omega arith
row_length (sem n m) f = omega arith
row_length start f = omega arith
row_length (lock m t) f = omega arith
row_length (unlock m) f = omega arith
row_length (pend k t) f = omega arith
row_length (post k) f = omega arith
row_length (flush k) f = omega arith
row_length (sleep t) f = omega arith
row_length yield f = omega arith
row_length hold f = omega arith
row_length free f = omega arith
row_length tick f = omega arith
row_length (level i) f = omega arith
row_length (outcome i) f = omega arith
row_length (queue w d none) f = omega arith
row_length (queue w d (some o)) f = omega arith
row_length (send q t m) f = omega (arith, leb-true (length m) held_words (and_r _ _ f))
row_length (receive q t) f = omega arith
row_length (word i n) f = omega arith

pub line_short : (x : Step) → is_formed x ≡ true → length (line_of x) ≤ 114
unfolding line_of joined
line_short x f = omega (arith, length-append (name_of x) (behind tab (map decimal (numbers_in x))), numbers_length (numbers_in x), row_length x f)

-- a step's line is that step: a send's where it has one to eight words
pub written_read : (x : Step) → is_formed x ≡ true → NumbersFit x → step_on (line_of x) ≡ some x
unfolding made_from step_on step_in line_of
written_read x f h =
    let fits : length (line_of x) ≤ longest = omega (arith, line_short x f) in
    let row = fields_row (name_of x) (map decimal (numbers_in x)) (free_name x) (free_numbers (numbers_in x)) in
    rw (le-leb _ _ fits, row, numbers_back (numbers_in x) h) (made_back x f)

-- no word takes more numbers than a step has at most
pub made_many : (n l : List ℕ) → most_numbers < length l → made_by words n l ≡ none
made_many n l h = by_made (made_by words n l) refl where
  by_made : (o : Option Step) → made_by words n l ≡ o → o ≡ none
  by_made none e = refl
  by_made (some x) e = absurd (let r = made_good n l x e in omega (arith, ap length r.1, row_length x r.2))

-- numbers that are read are written the same again
number_split : {G : Type 0} (y : Parsed ℕ) (o : Option (List ℕ)) (l : List ℕ) → with_number y o ≡ some l
    → ((n : ℕ) (k : List ℕ) → y ≡ Some n → o ≡ some k → n ∷ k ≡ l → G) → G
unfolding with_number
number_split None o l h g = none_some refl h
number_split (Some n) none l h g = none_some refl h
number_split (Some n) (some k) l h g = g n k refl refl (some_same h)

within_more : (n : ℕ) (k : List ℕ) → n ≤ most → Within k → Within (n ∷ k)
within_more n k h g zero = h
within_more n k h g (suc i) = g i

numbers_read : (fs : List (List ℕ)) (l : List ℕ) → numbers_of fs ≡ some l → Within l × (map decimal l ≡ fs)
unfolding numbers_of
numbers_read [] l h = let e : [] ≡ l = some_same h in (rw (← e) (λ i. omega arith), rw (← e))
numbers_read (f ∷ fs) l h = number_split (parsed f) (numbers_of fs) l h (λ n k e g s.
    let p = written_parse f n e in
    let r = numbers_read fs k g in
    (rw (← s) (within_more n k p.0 r.0), rw (← s, p.1, r.1)))

made_split : {G : Type 0} (n : List ℕ) (q : Option (List ℕ)) (x : Step) → made_from n q ≡ some x
    → ((l : List ℕ) → q ≡ some l → made_by words n l ≡ some x → G) → G
unfolding made_from
made_split n none x h g = none_some refl h
made_split n (some l) x h g = g l refl h

row_read : (fs : List (List ℕ)) (x : Step) → step_in fs ≡ some x → NumbersFit x × (row_of x ≡ fs) × (is_formed x ≡ true)
unfolding step_in
row_read [] x h = none_some refl h
row_read (n ∷ fs) x h = made_split n (numbers_of fs) x h (λ l g m.
    let r = made_good n l x m in
    let s = numbers_read fs l g in
    (rw r.1 s.0, rw (r.0, r.1, s.1), r.2))

-- a line that is a step is that step's line, and a send on it has one to eight words
pub read_written : (line : List ℕ) (x : Step) → step_on line ≡ some x → NumbersFit x × (line_of x ≡ line) × (is_formed x ≡ true)
unfolding step_on line_of
read_written line x h = elim (which (leb (length line) longest)) [
  | inl e ↦ (let r = row_read (fields line) x (rw e at h) in (r.0, ap (joined tab) r.1 ∙ fields_line line, r.2))
  | inr e ↦ none_some refl (rw e at h)
]

-- so a step that was read is formed, and every line's message has at most eight words
pub read_formed : (line : List ℕ) (x : Step) → step_on line ≡ some x → is_formed x ≡ true
read_formed line x h = (read_written line x h).2

pub read_message : (line : List ℕ) → length (message_on (step_on line)) ≤ held_words
unfolding message_on
read_message line = by_read (step_on line) refl where
  by_read : (o : Option Step) → step_on line ≡ o → length (message_on o) ≤ held_words
  by_read none e = omega arith
  by_read (some x) e = message_most x (read_formed line x e)
