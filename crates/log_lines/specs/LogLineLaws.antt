-- The fields of a log line, and its length.
use Rattle.std.specs.Prelude.{◌≡◌, refl, List, [], ◌∷◌, ℕ, ◌+◌, ◌≤◌, ◌<◌, ltb, length}
use Rattle.std.proofs.Common.{ap, ◌∙◌, inl, inr, arith, length-append, lt-ltb, le-ltb, ltb-true, ltb-false}
use Rattle.lists.specs.TestLaws.{which}
use Rattle.decimal.specs.Decimal.{max_digits, decimal}
use Rattle.decimal.specs.DecimalLaws.{decimal_length}
use Rattle.rules.specs.Sizes.{task_places}
use Rattle.text.specs.Fields.{tab}
use Rattle.text.specs.Lines.{lf}
use Rattle.rules.specs.Log.{dash, run_field}
use Rattle.walks.specs.Walk.{task_at}
use Rattle.log_lines.specs.LogLine.{line_bytes, line_room}
use Rattle.log_lines.specs.PutLaws.{whole}

-- the field of the task to run
pub run_task : (x : ℕ) → x < task_places → run_field (task_at x) ≡ decimal x
unfolding run_field
run_task x h = rw (lt-ltb x task_places h)

pub run_none : (x : ℕ) → task_places ≤ x → run_field (task_at x) ≡ dash ∷ []
unfolding run_field
run_none x h = rw (le-ltb x task_places h)

-- a line as rows of bytes one after the other
abbrev pub line_rows : ℕ → ℕ → ℕ → List (List ℕ)
line_rows number value run = decimal number ∷ (tab ∷ []) ∷ decimal value ∷ (tab ∷ []) ∷ run_field (task_at run) ∷ (lf ∷ []) ∷ []

pub line_rows_lem : (number value run : ℕ) → whole (line_rows number value run) ≡ line_bytes number value run
unfolding line_bytes whole
line_rows_lem number value run = refl

pub line_length : (number value run : ℕ)
    → length (line_bytes number value run) ≡ length (decimal number) + length (decimal value) + length (run_field (task_at run)) + 3
unfolding line_bytes
line_length number value run = simp length-append (omega arith)

-- a number of digits is at most 10
pub digits_most : (n v : ℕ) → n ≡ length (decimal v) → n ≤ max_digits
digits_most n v e = rw e (decimal_length v).1

pub run_most : (n x : ℕ) → n ≡ length (run_field (task_at x)) → n ≤ max_digits
run_most n x e = elim (which (ltb x task_places)) [
  | inl h ↦ digits_most n x (e ∙ ap length (run_task x (ltb-true _ _ h)))
  | inr h ↦ omega (arith, e ∙ ap length (run_none x (ltb-false _ _ h)))
]

-- no line is longer than `line_room`
pub line_room_lem : (number value run : ℕ) → length (line_bytes number value run) ≤ line_room
line_room_lem number value run =
    omega (arith, line_length number value run, (decimal_length number).1, (decimal_length value).1, run_most (length (run_field (task_at run))) run refl)
