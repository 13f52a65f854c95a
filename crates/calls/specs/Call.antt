-- A step by its code and three numbers, with a message beside it: what is asked for, and what comes of it.
use Rattle.std.specs.Prelude.{◌≡◌, List, [], ◌∷◌, Some, None, Option, ℕ, length, get_or}
use Rattle.record.specs.StepRecord.{After, out_of, stays, standing_in, step_of}
use Rattle.record.specs.Whole.{Whole, whole}
use Rattle.machine.specs.Planned.{carried}
use Rattle.record.specs.declared.State.{State}  -- keep
use Rattle.record.specs.declared.Out.{Out}  -- keep
use Rattle.record.specs.declared.Plan.{Plan}  -- keep
use Rattle.record.specs.declared.Request.{Request}  -- keep
use Rattle.record.specs.declared.Request.TheVariants.{Task, Mutex, Sem, Start, Lock, Unlock, Pend, Post, Flush, Sleep, Yield, Hold, Free, Tick, Level, Outcome, Queue, OwnedQueue, Send, Receive, Word}  -- keep

-- the steps by their codes, 0 to 20; a step that has fewer numbers leaves the others out of account
abbrev pub by_code : ℕ → ℕ → ℕ → List (Option Request)
by_code a b c =
    Some (Task a) ∷ Some (Mutex a) ∷ Some (Sem a b) ∷ Some Start ∷ Some (Lock a b) ∷ Some (Unlock a) ∷ Some (Pend a b) ∷ Some (Post a) ∷ Some (Flush a)
    ∷ Some (Sleep a) ∷ Some Yield ∷ Some Hold ∷ Some Free ∷ Some Tick ∷ Some (Level a) ∷ Some (Outcome a)
    ∷ Some (Queue a b) ∷ Some (OwnedQueue a b c) ∷ Some (Send a b) ∷ Some (Receive a b) ∷ Some (Word a b) ∷ []

-- what a code asks for: nothing where it is no step's
unfoldable pub request_of : ℕ → ℕ → ℕ → ℕ → Option Request
request_of code a b c = get_or (by_code a b c) code None

-- what comes of it: the kernel's answer to the step, or 14 as for a line that is no step
unfoldable pub call_of : Whole → Option Request → List ℕ → After
call_of h (Some x) m = step_of h x m
call_of h None m = stays h 14 0 (standing_in h)

-- the same by code and numbers: what is handed back, and what lent memory holds then
abbrev pub call_out : State → ℕ → ℕ → ℕ → ℕ → List ℕ → List ℕ → List ℕ → Out
call_out k code a b c words message block = out_of (call_of (whole k words block) (request_of code a b c) message)

abbrev pub call_words : State → ℕ → ℕ → ℕ → ℕ → List ℕ → List ℕ → List ℕ → List ℕ
call_words k code a b c words message block = (call_of (whole k words block) (request_of code a b c) message).whole.words

abbrev pub call_block : State → ℕ → ℕ → ℕ → ℕ → List ℕ → List ℕ → List ℕ → List ℕ
call_block k code a b c words message block = (call_of (whole k words block) (request_of code a b c) message).whole.block

-- a plan that comes to the step of a code, whatever message of so many words stands beside it and whatever block of that length is lent
abbrev pub CallGives : State → ℕ → ℕ → ℕ → ℕ → List ℕ → ℕ → ℕ → Plan → Type 0
CallGives k code a b c words count space p =
    (m block : List ℕ) → length m ≡ count → length block ≡ space → carried (whole k words block) m p ≡ call_of (whole k words block) (request_of code a b c) m
