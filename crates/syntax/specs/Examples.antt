-- Lines and the steps that they are, computed by the definitions: one table with one claim.
use Rattle.std.specs.Prelude.{◌≡◌, refl, List, [], ◌∷◌, map}
use Rattle.std.proofs.Math.Option.{Option, none, some}
use Rattle.lists.specs.Test.{◌and◌}
use Rattle.text.specs.Cut.{pieces}
use Rattle.text.specs.Fields.{fields}
use Rattle.decimal.specs.Parse.{with_digit, with_digits, parsed}
use Rattle.rules.specs.Step.{Step, task, sem, start, lock, sleep, tick, outcome, queue, send, receive, word}
use Rattle.text.specs.Ascii.{ascii}
use Rattle.words.specs.Form.{alone, with_one, with_two, with_two_or_three, with_words, words, same_bytes, made_by, with_number, numbers_of, made_from, step_in, step_on}
use Prim.Native.String.{String}

pub record Example : Type 0 where
  pub line : String
  pub read : Option Step

abbrev it : String → Option Step → Example
it l x = record { line = l; read = x }

pub examples : List Example
examples =
    it "lock\t0\t10" (some (lock 0 10)) ∷
    it "task\t4294967295" (some (task 4294967295)) ∷
    it "sem\t1\t1" (some (sem 1 1)) ∷
    it "outcome\t15" (some (outcome 15)) ∷
    it "start" (some start) ∷
    it "tick" (some tick) ∷
    it "sleep\t0" (some (sleep 0)) ∷
    it "queue\t2\t64" (some (queue 2 64 none)) ∷
    it "queue\t8\t1\t15" (some (queue 8 1 (some 15))) ∷
    it "send\t0\t5\t7" (some (send 0 5 (7 ∷ []))) ∷
    it "send\t0\t5\t1\t2\t3\t4\t5\t6\t7\t8" (some (send 0 5 (1 ∷ 2 ∷ 3 ∷ 4 ∷ 5 ∷ 6 ∷ 7 ∷ 8 ∷ []))) ∷
    it "receive\t7\t4294967295" (some (receive 7 4294967295)) ∷
    it "word\t1\t7" (some (word 1 7)) ∷
    -- a number too few, and one too many
    it "lock\t0" none ∷
    it "task" none ∷
    it "tick\t1" none ∷
    it "lock\t0\t10\t1" none ∷
    it "queue\t1" none ∷
    it "queue\t1\t2\t3\t4" none ∷
    it "send\t0\t5" none ∷
    it "send\t0\t5\t1\t2\t3\t4\t5\t6\t7\t8\t9" none ∷
    it "receive\t7" none ∷
    it "word\t1" none ∷
    it "word\t1\t2\t3" none ∷
    -- no numbers: a leading zero, too great, a sign, none
    it "lock\t00\t1" none ∷
    it "lock\t0\t01" none ∷
    it "task\t4294967296" none ∷
    it "task\t+1" none ∷
    it "task\t-1" none ∷
    it "task\t" none ∷
    it "tick\t" none ∷
    -- no names
    it "" none ∷
    it "\t" none ∷
    it " tick" none ∷
    it "tick " none ∷
    it "tick\r" none ∷
    it "TICK" none ∷
    it "Task\t1" none ∷
    it "kernel\t1" none ∷
    -- parted by something else
    it "task 1" none ∷
    it "task\t\t1" none ∷
    it "\ttask\t1" none ∷
    []

pub examples_read : map (λ (e : Example). step_on (ascii e.line)) examples ≡ map (λ (e : Example). e.read) examples
unfolding ascii examples ◌and◌ pieces fields with_digit with_digits parsed alone with_one with_two with_two_or_three with_words words same_bytes made_by with_number numbers_of made_from step_in step_on
examples_read = refl
