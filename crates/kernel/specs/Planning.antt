-- What is planned for a request on a record that was tested before.
use Rattle.std.specs.Prelude.{◌≡◌, List, Bool, true, cond, ℕ, ltb, leb, length}
use Rattle.std.proofs.Math.Option.{none}
use Rattle.lists.specs.Test.{◌and◌}
use Rattle.rules.specs.Sizes.{held_words}
use Rattle.record.specs.Whole.{Whole, whole}
use Rattle.record.specs.SoundRecord.{sound_of}
use Rattle.record.specs.GoodRecord.{Typed}
use Rattle.record.specs.StepRecord.{answer_for, standing_by, step_of}
use Rattle.machine.specs.Machine.{machine_step}
use Rattle.machine.specs.Planned.{carried}
use Rattle.record.specs.declared.State.{State}  -- keep
use Rattle.record.specs.declared.Answer.{Answer}  -- keep
use Rattle.record.specs.declared.Plan.{Plan}  -- keep
use Rattle.moves.specs.declared.Move.TheVariants.{Nothing}  -- keep
use Rattle.record.specs.declared.Out.{Out}  -- keep
use Rattle.record.specs.declared.Request.{Request}  -- keep
use Rattle.record.specs.declared.Request.TheVariants.{Task, Mutex, Sem, Start, Lock, Unlock, Pend, Post, Flush, Sleep, Yield, Hold, Free, Tick, Level, Outcome, Queue, OwnedQueue, Send, Receive, Word}  -- keep

-- document 02, K1: "14 for a send with no word or over 8": `is_formed` by the number of the message's words
unfoldable pub formed_by : Request → ℕ → Bool
formed_by (Task p) n = true
formed_by (Mutex k) n = true
formed_by (Sem count max) n = true
formed_by Start n = true
formed_by (Lock j t) n = true
formed_by (Unlock j) n = true
formed_by (Pend k t) n = true
formed_by (Post k) n = true
formed_by (Flush k) n = true
formed_by (Sleep t) n = true
formed_by Yield n = true
formed_by Hold n = true
formed_by Free n = true
formed_by Tick n = true
formed_by (Level i) n = true
formed_by (Outcome i) n = true
formed_by (Queue w d) n = true
formed_by (OwnedQueue w d o) n = true
formed_by (Send q t) n = ltb 0 n and leb n held_words
formed_by (Receive q t) n = true
formed_by (Word i j) n = true

-- the record stays, and nothing is moved
abbrev pub unmoved : State → Answer → Plan
unmoved k a = record { state = k; answer = a; moves = Nothing }

-- what is planned for a request, `sound` being what the test said of the record: 14, 15, or its step
unfoldable pub planned : Bool → State → Request → ℕ → ℕ → List ℕ → Plan
planned sound k x count space words =
    cond (formed_by x count)
    (cond sound (machine_step k x count space words) (unmoved k (answer_for 15 0 none)))
    (unmoved k (answer_for 14 0 (standing_by sound k)))

-- what a plan hands back, once its words are moved
abbrev pub given : Plan → Out
given p = record { state = p.state; answer = p.answer }

-- the test has said the truth of the record, which has the lengths and the numbers of its type
pub record Known (sound : Bool) (h : Whole) : Type 0 where
  pub typed : Typed h.state
  pub truth : sound ≡ sound_of h

-- a plan that comes to the step of a request, whatever message of so many words stands beside it and whatever block of that length is lent
abbrev pub Gives : Bool → State → List ℕ → ℕ → Request → ℕ → Plan → Type 0
Gives sound k words space x count p =
    (m block : List ℕ) → length m ≡ count → length block ≡ space → Known sound (whole k words block) → carried (whole k words block) m p ≡ step_of (whole k words block) x m
