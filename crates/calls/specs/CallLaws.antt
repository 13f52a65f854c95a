-- Laws of a step by its code: every step has one, no other code is a step's, and a refusal leaves the record, its words and the block.
use Rattle.std.specs.Prelude.{◌≡◌, refl, Bool, Some, None, Option, List, ℕ, ◌≤◌, ◌<◌, length, suc}
use Rattle.std.proofs.Common.{ap, ◌∙◌, arith}
use Rattle.std.proofs.Math.ListN.{get_or-eq_default}
use Rattle.record.specs.Whole.{Whole}
use Rattle.record.specs.SoundRecord.{sound_of}
use Rattle.record.specs.StepRecord.{After, out_of, step_for, number_of, answer_for, stays, standing_by, standing_in}
use Rattle.record.specs.GoodRecord.{Typed}
use Rattle.record.specs.DemandRecordLaws.{refused_stays}
use Rattle.record.specs.declared.Answer.{Answer}  -- keep
use Rattle.record.specs.declared.Request.{Request}  -- keep
use Rattle.record.specs.declared.Request.TheVariants.{Task, Mutex, Sem, Start, Lock, Unlock, Pend, Post, Flush, Sleep, Yield, Hold, Free, Tick, Level, Outcome, Queue, OwnedQueue, Send, Receive, Word}  -- keep
use Rattle.machine.specs.Planned.{carried}
use Rattle.moves.specs.Moves.{words_after, block_after}
use Rattle.kernel.specs.Planning.{given}
use Rattle.record.specs.declared.State.{State}  -- keep
use Rattle.record.specs.declared.Plan.{Plan}  -- keep
use Rattle.calls.specs.Call.{by_code, request_of, call_of, call_out, call_words, call_block, CallGives}
use Rattle.moves.specs.declared.Move.TheVariants as nothing

-- the step x is what some code asks for with some numbers
abbrev pub HasCode : Request → Type 0
HasCode x = (code : ℕ) × (a : ℕ) × (b : ℕ) × (c : ℕ) × (request_of code a b c ≡ Some x)

pub each_has_code : (x : Request) → HasCode x
unfolding request_of
each_has_code (Task p) = (0, p, 0, 0, refl)
each_has_code (Mutex k) = (1, k, 0, 0, refl)
each_has_code (Sem count max) = (2, count, max, 0, refl)
each_has_code Start = (3, 0, 0, 0, refl)
each_has_code (Lock m t) = (4, m, t, 0, refl)
each_has_code (Unlock m) = (5, m, 0, 0, refl)
each_has_code (Pend k t) = (6, k, t, 0, refl)
each_has_code (Post k) = (7, k, 0, 0, refl)
each_has_code (Flush k) = (8, k, 0, 0, refl)
each_has_code (Sleep t) = (9, t, 0, 0, refl)
each_has_code Yield = (10, 0, 0, 0, refl)
each_has_code Hold = (11, 0, 0, 0, refl)
each_has_code Free = (12, 0, 0, 0, refl)
each_has_code Tick = (13, 0, 0, 0, refl)
each_has_code (Level i) = (14, i, 0, 0, refl)
each_has_code (Outcome i) = (15, i, 0, 0, refl)
each_has_code (Queue w d) = (16, w, d, 0, refl)
each_has_code (OwnedQueue w d o) = (17, w, d, o, refl)
each_has_code (Send q t) = (18, q, t, 0, refl)
each_has_code (Receive q t) = (19, q, t, 0, refl)
each_has_code (Word i n) = (20, i, n, 0, refl)

pub beyond : (code a b c : ℕ) → length (by_code a b c) ≤ code → request_of code a b c ≡ None
unfolding request_of
beyond code a b c h = get_or-eq_default (by_code a b c) None h

-- demand 1 as C meets it: "Every number but 0 and 1 leaves the state unchanged", whatever code, numbers, message, record, words and block are handed in
pub refused_leaves : (h : Whole) (x : Option Request) (m : List ℕ) → Typed h.state → 1 < number_of (call_of h x m).answer → (call_of h x m).whole ≡ h
unfolding call_of stays
refused_leaves h (Some x) m T n = refused_stays h (step_for x m) T n
refused_leaves h None m T n = refl

-- a code that names no step, on a record that was tested
pub malformed_call : (sound : Bool) (h : Whole) (m : List ℕ) → sound ≡ sound_of h → (a : Answer) → a ≡ answer_for 14 0 (standing_by sound h.state)
    → carried h m (record { state = h.state; answer = a; moves = nothing.Nothing }) ≡ call_of h None m
unfolding call_of stays standing_in carried
malformed_call sound h m truth a e = λ i. record { whole = h; answer = (e ∙ ap (λ b. answer_for 14 0 (standing_by b h.state)) truth) i }

-- what a plan by code comes to once its words are moved: what is handed back, and what lent memory holds
pub call_given : (k : State) (code a b c : ℕ) (words m block : List ℕ) (p : Plan) → CallGives k code a b c words (length m) (length block) p
    → (given p ≡ call_out k code a b c words m block) × (words_after p.moves words m block ≡ call_words k code a b c words m block) × (block_after p.moves words m block ≡ call_block k code a b c words m block)
unfolding carried
call_given k code a b c words m block p g =
    let e = g m block refl refl in
    (ap out_of e, ap (λ (z : After). z.whole.words) e, ap (λ (z : After). z.whole.block) e)

-- a number that is no smaller and another is greater
pub past : (n code : ℕ) → n ≤ code → (code ≡ n → ⊥) → suc n ≤ code
past n code h other = omega arith
