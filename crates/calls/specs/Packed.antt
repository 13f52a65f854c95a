-- An answer in one number of 64 bits: the answer's number in bits 0 to 7, the task to run in 8 to 15, the value in 32 to 63.
use Rattle.std.specs.Prelude.{◌≡◌, ℕ, ◌+◌, ◌*◌, ◌/◌, ◌%◌}
use Rattle.record.specs.StepRecord.{number_of, value_of, run_of}
use Rattle.record.specs.declared.Answer.{Answer}  -- keep

-- number, value and task to run, side by side
abbrev pub packed_parts : ℕ → ℕ → ℕ → ℕ
packed_parts number value run = number + run * 256 + value * 4294967296

abbrev pub packed : Answer → ℕ
packed x = packed_parts (number_of x) (value_of x) (run_of x)

-- the parts of such a number
abbrev pub number_in : ℕ → ℕ
number_in answer = answer % 256

abbrev pub run_in : ℕ → ℕ
run_in answer = answer / 256 % 256

abbrev pub value_in : ℕ → ℕ
value_in answer = answer / 4294967296

-- a number is an answer's, and its parts are the answer's
abbrev pub Carries : ℕ → Answer → Type 0
Carries r x = (r ≡ packed x) × (number_in r ≡ number_of x) × (run_in r ≡ run_of x) × (value_in r ≡ value_of x)
