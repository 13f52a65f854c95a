-- Demand 3 holds: what is due of the history, read off from a sound state that agrees with it.
use Rattle.std.specs.Prelude.{◌≡◌, refl, List, [], ◌∷◌, true, ◌⊎◌, ℕ, ◌≤◌, ◌<◌, length}
use Rattle.std.proofs.Math.Path.{ap, subst}
use Rattle.std.proofs.Common.{sym, ◌∙◌, le-leb}
use Rattle.std.proofs.Math.Logic.{inl, inr}
use Rattle.std.proofs.Math.Option.{Option, none, some}
use native.Mathlib.Omega.{arith}
use Rattle.std.proofs.lemmas.Bool.{lt-leb}
use Rattle.lists.specs.Count.{occ}
use Rattle.lists.specs.TestLaws.{by_test, some_same}
use Rattle.lists.specs.CountLaws.{occ_opt_other, below_in}
use Rattle.chains.specs.Chain.{From, here, on, Ended}
use Rattle.chains.specs.ChainLaws.{no_ring, from_some}
use Rattle.chains.specs.LeastLaws.{leading_low, leading_att}
use Rattle.rules.specs.Tables.{task_count}
use Rattle.rules.specs.State.{State, fresh, level_of}
use Rattle.rules.specs.Step.{level}
use Rattle.rules.specs.Effect.{done, effect}
use Rattle.rules.specs.Settle.{finish}
use Rattle.rules.specs.Refusal.{refusals, first_row}
use Rattle.rules.specs.Sound.{wait_count, soundb}
use Rattle.rules.specs.Answer.{Answer, answered, decide, step_sound, malformed, is_formed, step}
use Rattle.rules.specs.Log.{log_line, with_room, Call, in_room, call}
use Rattle.rules.specs.Invariant.{Started, Inv}
use Rattle.rules.proofs.LevelLaws.{lends_ended}
use Rattle.rules.proofs.StepLaws.{caller_in, caller_idle, step_inv, fresh_inv}
use Rattle.rules.proofs.SoundLaws.{sound_inv, inv_sound}
use Rattle.rules.specs.History.{Told, tasks_made, own_priority, told_next, told_lends, told_level, observe, told_from}
use Rattle.rules.specs.Demand.{Leads, to_owner, through, WaitRow, Ready, Runner, MostUrgent, level_call, HasRoom, Demand, event_of, events, after, told_in, told, Demand3From, Demand3}
use Rattle.rules.proofs.RefusalLaws.{call_by}
use Rattle.rules.proofs.AgreeLaws.{as_wait, Agrees, none_told, tells_agrees, next_told, lends_told, level_told, call_agrees}

-- a call keeps a sound state sound
pub call_inv : (s : State) → Inv s → (c : Call) → Inv (call s c).state
unfolding step malformed
call_inv s I c = call_by (λ a. Inv a.state) s c (by_test (λ (a : Answer). Inv a.state) (is_formed c.made)
    (λ f. by_test (λ (a : Answer). Inv a.state) (soundb s) (λ e. step_inv s I c.made) (λ e. I)) (λ f. I)) I

-- a chain in the words of demand 3, and of its definition
module _ (h : Told) where
  leads_from : {j i : ℕ} → Leads h j i → From (told_lends h) (some j) i
  leads_from (to_owner {i = j} {j = i} l) = on {i = j} {k = i} (rw l here)
  leads_from (through {i = i} {j = j} {k = k} l g) = on {i = i} {k = k} (rw l (leads_from g))

  from_leads : {o : Option ℕ} {i : ℕ} → From (told_lends h) o i → (j : ℕ) → o ≡ some j → (j ≡ i) ⊎ Leads h j i
  from_leads here j e = inl (sym (some_same e))
  from_leads (on {i = k} {k = i} g) j e = let r = from_some g in inr (subst (λ z. Leads h z i) (some_same e) (elim (from_leads g r.0 r.1) [
    | inl p ↦ to_owner (r.1 ∙ ap some p)
    | inr q ↦ through r.1 q
  ]))

  row_from : (x : ℕ) (l : List ℕ) (y : ℕ) → WaitRow h x l y → From (told_next h) (told_next h x) y
  row_from x [] y w = rw w here
  row_from x (z ∷ l) y w = rw w.0 (on {i = z} {k = y} (row_from z l y w.1))

-- `level` is accepted for a task of a sound state, and its value is the level
level_answer : (s : State) → Inv s → (i : ℕ) → i < task_count s.tables → step s (level i) ≡ answered (finish s (done s [] (level_of s i))) 0 (level_of s i)
unfolding step is_formed step_sound decide refusals first_row effect
level_answer s I i h = rw (inv_sound s I, lt-leb (task_count s.tables) i h) refl

module _ (s : State) (h : Told) (I : Inv s) (A : Agrees s h) where
  as_many : tasks_made h ≡ task_count s.tables
  as_many = ap length A.tables.priorities

  level_call_lem : (i : ℕ) → i < tasks_made h → (room : Option ℕ) → HasRoom room (call s (level_call i none))
      → call s (level_call i room) ≡ answered (finish s (done s [] (level_of s i))) 0 (level_of s i)
  unfolding call in_room with_room
  level_call_lem i low none fits = level_answer s I i (omega (arith, as_many))
  level_call_lem i low (some room) fits = rw (le-leb (length (log_line (step s (level i)))) room fits) (level_answer s I i (omega (arith, as_many)))

  most_urgent : (i : ℕ) → i < tasks_made h → MostUrgent h i (told_level h i)
  unfolding told_level
  most_urgent i low = record {
    own = leading_low (own_priority h) chains i i low here;
    low = λ j q g. leading_low (own_priority h) chains i j q (leads_from h g);
    one = let a = leading_att (own_priority h) chains i low in elim (from_leads h a.2 a.0 refl) [
      | inl e ↦ inl (a.3 ∙ ap (own_priority h) e)
      | inr g ↦ inr (a.0, a.1, g, a.3)
    ];
  }
    where
      chains : Ended (tasks_made h) (told_lends h)
      chains = subst (λ n. Ended n (told_lends h)) (sym as_many) (subst (Ended (task_count s.tables)) (sym (lends_told A.tables)) (lends_ended s.tables I.facts))

  -- a task that neither runs nor waits stands in the ready order
  ready_in : (i : ℕ) → Ready h i → 1 ≤ occ i s.ready
  unfolding occ as_wait wait_count
  ready_in i r = omega (
    arith,
    I.places i,
    below_in i (task_count s.tables) (omega (arith, as_many, r.exists)),
    I.facts.waiting i,
    ap wait_count (sym (A.tables.wait i) ∙ ap (as_wait (h.ticks i)) r.not_waiting),
    occ_opt_other s.running i (λ e. r.not_running (A.runs ∙ e)),
  )

  demand : h.started ≡ true → Demand h (call s)
  demand began = record {
    levels = λ i low room fits. subst (λ a. (a.number ≡ 0) × MostUrgent h i a.value) (sym (level_call_lem i low room fits))
        (refl, subst (MostUrgent h i) (ap (λ f. f i) (level_told A.tables)) (most_urgent i low));
    no_ring = λ x l w. no_ring (I.facts.ends x).1 (subst (λ f. From f (f x) x) (next_told A.tables) (row_from h x l x w));
    runs = λ i r. (let k = S.runs i (ready_in i r) in (k.0, runner k.0 k.1));
    urgent = λ z i r q e.
        let u = runner r (sym A.runs ∙ e) in
        (u, omega (arith, S.urgent (sym A.depth ∙ z) i r (ready_in i q) (sym A.runs ∙ e), value i q.exists, value r u.made));
  }
    where
      S : Started s
      S = I.when_started (sym A.started ∙ began)

      runner : (r : ℕ) → s.running ≡ some r → Runner h r
      runner r e = record { made = omega (arith, as_many, caller_in s I r e); awake = none_told (h.ticks r) (h.wait r) (A.tables.wait r ∙ caller_idle s I r e); named = A.runs ∙ e }

      value : (i : ℕ) → i < tasks_made h → (call s (level_call i none)).value ≡ level_of s i
      value i low = ap (λ a. a.value) (level_call_lem i low none tt)

-- over the list: the state stays sound and agrees with what is told
pub list_sound : (cs : List Call) (s : State) (h : Told) → Inv s → Agrees s h → Inv (after s cs) × Agrees (after s cs) (told_from h (events s cs))
unfolding after events told_from
list_sound [] s h I A = (I, A)
list_sound (c ∷ cs) s h I A = list_sound cs (call s c).state (observe h (event_of c.made (call s c))) (call_inv s I c) (call_agrees s h I A c)

-- demand 3, over every list of calls from any sound state
pub demand_3_from : (s : State) → soundb s ≡ true → Demand3From s
unfolding told
demand_3_from s e cs =
    let I = sound_inv s e in
    let r = list_sound cs s (told_in s) I (tells_agrees s) in
    demand (after s cs) (told s (events s cs)) r.0 r.1

-- and from a fresh state with an accepted start
pub demand_3 : Demand3
demand_3 space = demand_3_from (fresh space) (inv_sound (fresh space) (fresh_inv space))
