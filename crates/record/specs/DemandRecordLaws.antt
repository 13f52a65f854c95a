-- Demand 3 holds of the record with its words and block: each call on the packing of a sound state, with a block that holds its messages, is the packed
-- call of the rules. And a refusal changes nothing.
use Rattle.std.specs.Prelude.{◌≡◌, ℕ, ◌<◌, Bool, true, false, cond, List, [], ◌∷◌, length, ◌==◌, nat_le}
use Rattle.std.proofs.Math.Path.{refl, ap, sym, fun_ext}
use Rattle.std.proofs.Common.{◌∙◌, subst, arith, ne_eqb}
use Rattle.std.proofs.Math.Logic.{inl, inr}
use Rattle.std.proofs.Math.Option.{Option, none, some}
use Rattle.lists.specs.TestLaws.{which, by_test, and_l, and_r}
use Rattle.rules.specs.Step.{Step, task, mutex, sem, start, lock, unlock, pend, post, flush, sleep, yield, hold, free, tick, level, outcome, queue, send, receive, word}
use Rattle.rules.specs.Refusal.{Row, refusals, first_row}
use Rattle.rules.specs.Log.{log_line, with_room, Call, in_room, call}
use Rattle.rules.specs.Invariant.{Inv}
use Rattle.rules.proofs.StepLaws.{step_inv, fresh_inv}
use Rattle.rules.proofs.SoundLaws.{inv_sound}
use Rattle.rules.specs.Demand.{event_of, events, after}
use Rattle.rules.proofs.RefusalLaws.{call_by, refused_unchanged}
use Rattle.rules.proofs.RefusalLaws as R
use Rattle.rules.proofs.DemandLaws.{call_inv, demand_3_from}
use Rattle.task_lists.specs.TaskList.{no_id, task_list_of, id_of}
use Rattle.walks.specs.Walk.{task_at}
use Rattle.record.specs.Record.{view, pack_tasks, pack_mutexes, pack_semaphores, pack_queues, pack, joined, pack_words, oldest_in}
use Rattle.lists.specs.Table.{pad, filled}
use Rattle.record.specs.Whole.{Whole, whole}
use Rattle.record.specs.Layout.{Stands, packed}
use Rattle.record.specs.SoundRecord.{sound_of}
use Rattle.record.specs.StepRecord.{step_for, number_of, value_of, run_of, answer_for, oldest_for, block_for, After, after_for, stays, standing_in, step_by, step_of}
use Rattle.record.specs.GoodRecord.{Typed, WordsTyped}
use Rattle.record.specs.TidyLaws.{running_id}
use Rattle.record.specs.PackLaws.{id_back}
use Rattle.record.specs.WordsPackLaws.{words_many}
use Rattle.record.specs.SoundPackLaws.{view_pack, pack_sound, pack_typed, sound_view, sound_tidy, sound_pack, sound_words, sound_stands}
use Rattle.record.specs.StepStandsLaws.{refused_same, step_stands}
use Rattle.record.specs.ColumnLaws.{chosen, skipped}
use Rattle.record.specs.DemandRecord.{fresh_record, fresh_with, request_for, message_for, read_out, in_memory, call_record, events_record, after_record, answer_record, Demand3RecordFrom, Demand3Record}
use Rattle.record.specs.declared.Request.{Request}  -- keep
use Rattle.record.specs.declared.Request.TheVariants.{Task, Mutex, Sem, Start, Lock, Unlock, Pend, Post, Flush, Sleep, Yield, Hold, Free, Tick, Level, Outcome, Queue, OwnedQueue, Send, Receive, Word}  -- keep
use Rattle.rules.specs.State.{State as Model, fresh}  -- keep
use Rattle.rules.specs.Answer.{Answer as Ruled, decide, step_sound, standing, stopped, malformed, is_formed, step}  -- keep

pub step_back : (x : Step) → step_for (request_for x) (message_for x) ≡ x
unfolding step_for request_for message_for
step_back (task p) = refl
step_back (mutex k) = refl
step_back (sem count max) = refl
step_back start = refl
step_back (lock m t) = refl
step_back (unlock m) = refl
step_back (pend k t) = refl
step_back (post k) = refl
step_back (flush k) = refl
step_back (sleep t) = refl
step_back yield = refl
step_back hold = refl
step_back free = refl
step_back tick = refl
step_back (level i) = refl
step_back (outcome i) = refl
step_back (queue w d none) = refl
step_back (queue w d (some o)) = refl
step_back (send q t m) = refl
step_back (receive q t) = refl
step_back (word i n) = refl

-- and every request is that of a step, so that demand 3's list reaches it
pub request_back : (x : Request) (m : List ℕ) → request_for (step_for x m) ≡ x
unfolding step_for request_for
request_back (Task p) m = refl
request_back (Mutex k) m = refl
request_back (Sem count max) m = refl
request_back Start m = refl
request_back (Lock j t) m = refl
request_back (Unlock j) m = refl
request_back (Pend k t) m = refl
request_back (Post k) m = refl
request_back (Flush k) m = refl
request_back (Sleep t) m = refl
request_back Yield m = refl
request_back Hold m = refl
request_back Free m = refl
request_back Tick m = refl
request_back (Level i) m = refl
request_back (Outcome i) m = refl
request_back (Queue w d) m = refl
request_back (OwnedQueue w d o) m = refl
request_back (Send q t) m = refl
request_back (Receive q t) m = refl
request_back (Word i n) m = refl

-- an answer's three numbers are read back from its cases
module _ (k v : ℕ) (r : Option ℕ) where
  pub number_back : number_of (answer_for k v r) ≡ k
  unfolding number_of answer_for
  number_back = by_test (λ a. number_of a ≡ k) (nat_le k 1) (λ e. refl) (λ e. refl)

  pub value_back : value_of (answer_for k v r) ≡ v
  unfolding value_of answer_for
  value_back = by_test (λ a. value_of a ≡ v) (nat_le k 1) (λ e. refl) (λ e. refl)

  run_back : run_of (answer_for k v r) ≡ id_of r
  unfolding run_of answer_for
  run_back = by_test (λ a. run_of a ≡ id_of r) (nat_le k 1) (λ e. refl) (λ e. refl)

same_ruled : (a b : Ruled) → a.state ≡ b.state → a.number ≡ b.number → a.value ≡ b.value → a.run ≡ b.run → a ≡ b
same_ruled a b p1 p2 p3 p4 = λ i. record { state = p1 i; number = p2 i; value = p3 i; run = p4 i }

-- the answers that a sound state gets: the next state is sound, and the task to run is its running one
record Fair (a : Ruled) : Type 0 where
  sound : Inv a.state
  runs : a.run ≡ a.state.running

-- what comes of a step is the packed answer, with a block that holds the messages of the next state
record Handed (A : After) (a : Ruled) : Type 0 where
  o : List ℕ
  b : List ℕ
  there : Stands o b a.state.tables.queues
  whole : A.whole ≡ packed o b a.state
  answer : A.answer ≡ answer_for a.number a.value a.run

-- the running task of a sound state is read back from its id
runner_back : (s : Model) → Inv s → (o b : List ℕ) → Stands o b s.tables.queues → task_at (id_of s.running) ≡ s.running
unfolding view pack
runner_back s I o b S = ap (λ z. z.running) (view_pack s I o b S)

-- such an answer is read back
read_handed : (A : After) (a : Ruled) → Fair a → Handed A a → read_out A ≡ a
unfolding read_out
read_handed A a F H = same_ruled _ _
    (ap view H.whole ∙ view_pack a.state F.sound H.o H.b H.there)
    (ap number_of H.answer ∙ number_back a.number a.value a.run)
    (ap value_of H.answer ∙ value_back a.number a.value a.run)
    (ap (λ z. task_at (run_of z)) H.answer ∙ ap task_at (run_back a.number a.value a.run) ∙ ap (λ r. task_at (id_of r)) F.runs
    ∙ runner_back a.state F.sound H.o H.b H.there ∙ sym F.runs)

-- the task to run of a refusal: of a sound record the running one as it stands
pub standing_sound : (h : Whole) → sound_of h ≡ true → id_of (standing_in h) ≡ h.state.running
unfolding standing_in
standing_sound h e = rw e (id_back h.state.running (running_id h.state (sound_tidy h e)))

-- and of any other none
pub standing_unsound : (h : Whole) → sound_of h ≡ false → id_of (standing_in h) ≡ no_id
unfolding standing_in id_of
standing_unsound h e = rw e refl

module _ (s : Model) (I : Inv s) where
  pub step_is : (x : Step) → is_formed x ≡ true → step s x ≡ step_sound s x
  unfolding step
  step_is x f = chosen _ _ _ f ∙ chosen _ _ _ (inv_sound s I)

  fair_sound : (x : Step) → Fair (step_sound s x)
  unfolding step_sound decide
  fair_sound x = record { sound = step_inv s I x; runs = same_run (first_row (refusals s x)) }
    where
      same_run : (o : Option Row) → (decide s x o).run ≡ (decide s x o).state.running
      same_run none = refl
      same_run (some r) = refl

  fair_step : (x : Step) → Fair (step s x)
  unfolding step malformed
  fair_step x = by_test Fair (is_formed x) (λ f. rw (inv_sound s I) (fair_sound x)) (λ f. record { sound = I; runs = R.sound_stands s I })

  fair_call : (c : Call) → Fair (call s c)
  fair_call c = call_by Fair s c (fair_step c.made) (record { sound = I; runs = R.sound_stands s I })

  module _ (o b : List ℕ) (S : Stands o b s.tables.queues) where
    abbrev h : Whole
    h = packed o b s

    stands : standing_in h ≡ standing s
    unfolding standing_in pack
    stands = chosen _ _ _ (pack_sound s I o b S) ∙ runner_back s I o b S ∙ sym (R.sound_stands s I)

    -- a refusal that no row gives
    stopped_handed : (k : ℕ) → Handed (stays h k 0 (standing_in h)) (stopped s k)
    unfolding stays
    stopped_handed k = record { o = o; b = b; there = S; whole = refl; answer = ap (answer_for k 0) stands }

    -- the step on the packed state is the packed step
    pub step_of_pack : (x : Step) → is_formed x ≡ true → step_by h x ≡ after_for h x (step_sound s x)
    unfolding step_by
    step_of_pack x f = chosen _ _ _ f ∙ chosen _ _ _ (pack_sound s I o b S) ∙ ap (λ z. after_for h x (step_sound z x)) (view_pack s I o b S)

    packed_answer : (x : Step) → Handed (after_for h x (step_sound s x)) (step_sound s x)
    unfolding after_for pack
    packed_answer x = record {
      o = oldest_for (pack_queues o s.tables.queues) x (step_sound s x).number;
      b = block_for h x (step_sound s x).number;
      there = step_stands s I o b S x;
      whole = refl;
      answer = refl;
    }

    malformed_by : (x : Step) → is_formed x ≡ false → step_by h x ≡ stays h 14 0 (standing_in h)
    unfolding step_by
    malformed_by x f = skipped _ _ _ f

    step_handed : (x : Step) → Handed (step_by h x) (step s x)
    unfolding step malformed
    step_handed x = elim (which (is_formed x)) [
      | inl f ↦ rw (step_of_pack x f, f, inv_sound s I) (packed_answer x)
      | inr f ↦ rw (malformed_by x f, f) (stopped_handed 14)
    ]

    -- and so is a call, with a log line or without
    call_handed : (c : Call) → Handed (call_record h c) (call s c)
    unfolding call_record call in_room with_room in_memory
    call_handed c = rw (step_back c.made) (go c.room)
      where
        a : Ruled
        a = step s c.made

        A : After
        A = step_by h c.made

        choice : (t : Bool) → Handed (cond t A (stays h 8 0 (standing_in h))) (cond t a (stopped s 8))
        choice true = step_handed c.made
        choice false = stopped_handed 8

        go : (room : Option ℕ) → Handed (in_memory h room A) (in_room s room a)
        go none = step_handed c.made
        go (some room) = rw (read_handed A a (fair_step c.made) (step_handed c.made)) (choice (nat_le (length (log_line a)) room))

    pub answer_pack : answer_record h ≡ call s
    unfolding answer_record
    answer_pack = fun_ext (λ c. read_handed (call_record h c) (call s c) (fair_call c) (call_handed c))

-- over the list: the states stay sound, the records are their packings, and the events are the same
after_inv : (cs : List Call) (s : Model) → Inv s → Inv (after s cs)
unfolding after
after_inv [] s I = I
after_inv (c ∷ cs) s I = after_inv cs (call s c).state (call_inv s I c)

-- what is handed on at the end
record HandedOn (h : Whole) (s : Model) : Type 0 where
  o : List ℕ
  b : List ℕ
  there : Stands o b s.tables.queues
  whole : h ≡ packed o b s

after_pack : (cs : List Call) (s : Model) → Inv s → (h : Whole) → HandedOn h s → HandedOn (after_record h cs) (after s cs)
unfolding after after_record
after_pack [] s I h H = H
after_pack (c ∷ cs) s I h H = after_pack cs (call s c).state (call_inv s I c) (call_record h c).whole (record {
  o = K.o;
  b = K.b;
  there = K.there;
  whole = ap (λ z. (call_record z c).whole) H.whole ∙ K.whole;
})
  where
    K : Handed (call_record (packed H.o H.b s) c) (call s c)
    K = call_handed s I H.o H.b H.there c

events_pack : (cs : List Call) (s : Model) → Inv s → (h : Whole) → HandedOn h s → events_record h cs ≡ events s cs
unfolding events events_record read_out
events_pack [] s I h H = refl
events_pack (c ∷ cs) s I h H =
    ap (λ z. event_of c.made (read_out (call_record z c)) ∷ events_record (call_record h c).whole cs) H.whole
    ∙ ap (λ a. event_of c.made a ∷ events_record (call_record h c).whole cs) (read_handed _ (call s c) (fair_call s I c) K)
    ∙ ap (λ l. event_of c.made (call s c) ∷ l) (events_pack cs (call s c).state (call_inv s I c) (call_record h c).whole
    (record { o = K.o; b = K.b; there = K.there; whole = ap (λ z. (call_record z c).whole) H.whole ∙ K.whole }))
  where
    K : Handed (call_record (packed H.o H.b s) c) (call s c)
    K = call_handed s I H.o H.b H.there c

-- demand 3, over every list of calls from the packing of a sound state
demand_3_pack : (s : Model) → Inv s → (o b : List ℕ) → Stands o b s.tables.queues → Demand3RecordFrom (packed o b s)
demand_3_pack s I o b S cs = rw (view_pack s I o b S, events_pack cs s I (packed o b s) first, E.whole, answer_pack (after s cs) (after_inv cs s I) E.o E.b E.there) (demand_3_from s (inv_sound s I) cs)
  where
    first : HandedOn (packed o b s) s
    first = record { o = o; b = b; there = S; whole = refl }

    E : HandedOn (after_record (packed o b s) cs) (after s cs)
    E = after_pack cs s I (packed o b s) first

-- a refusal on a packed state hands on the packed state
packed_again : (s : Model) (I : Inv s) (o b : List ℕ) (S : Stands o b s.tables.queues) (x : Step) (n : ℕ) → (n == 0) ≡ false
    → whole (pack (oldest_for (packed o b s).state.queues x n) s) (pack_words s.tables) (block_for (packed o b s) x n) ≡ packed o b s
unfolding pack
packed_again s I o b S x n z = let q = refused_same s I o b S x n z in ap (λ y. whole (pack y s) (pack_words s.tables) (block_for (packed o b s) x n)) q.0 ∙ ap (whole (pack o s) (pack_words s.tables)) q.1

-- a sound record with its words and block is the packing of what it stands for, with the ring places of its oldest messages
module _ (h : Whole) (T : Typed h.state) (sound : sound_of h ≡ true) where
  -- it has as many words as there are places for
  all_words : WordsTyped h.words
  unfolding sound_of
  all_words = words_many h.words h.state.tasks.n (and_l _ _ (and_r _ _ sound))

  pub whole_pack : packed (oldest_in h.state.queues) h.block (view h) ≡ h
  unfolding view
  whole_pack = λ i. record { state = sound_pack h sound T i; words = sound_words h sound all_words i; block = h.block }

  pub view_stands : Stands (oldest_in h.state.queues) h.block (view h).tables.queues
  unfolding view
  view_stands = sound_stands h sound T

  -- and so demand 3 is from any sound record
  pub demand_3_record_from : Demand3RecordFrom h
  demand_3_record_from = subst Demand3RecordFrom whole_pack (demand_3_pack (view h) (sound_view h sound) (oldest_in h.state.queues) h.block view_stands)

  -- the step on a sound record is the packed step of what it stands for
  pub step_of_sound : (x : Step) → is_formed x ≡ true → step_by h x ≡ after_for h x (step_sound (view h) x)
  unfolding step_by
  step_of_sound x f = chosen _ _ _ f ∙ chosen _ _ _ sound

  handed : (x : Step) → Handed (step_by h x) (step (view h) x)
  handed x = subst (λ z. Handed (step_by z x) (step (view h) x)) whole_pack (step_handed (view h) (sound_view h sound) (oldest_in h.state.queues) h.block view_stands x)

  -- every step keeps it sound, and gives the state that the rules give
  pub step_sound_lem : (x : Step) → sound_of (step_by h x).whole ≡ true
  step_sound_lem x = let K = handed x in rw K.whole (pack_sound (step (view h) x).state (fair_step (view h) (sound_view h sound) x).sound K.o K.b K.there)

  pub step_view : (x : Step) → view (step_by h x).whole ≡ (step (view h) x).state
  step_view x = let K = handed x in ap view K.whole ∙ view_pack (step (view h) x).state (fair_step (view h) (sound_view h sound) x).sound K.o K.b K.there

-- and from the fresh one with an accepted start, whatever block is lent
fresh_stands : (block : List ℕ) → Stands [] block (fresh (length block)).tables.queues
unfolding fresh
fresh_stands block = record { oldest_column = refl; in_ring = λ q h. absurd (omega arith); there = λ q h. absurd (omega arith); space = refl }

fresh_packed : (block : List ℕ) → fresh_with block ≡ packed [] block (fresh (length block))
unfolding fresh_with fresh_record fresh pack pack_tasks pack_mutexes pack_semaphores pack_queues pack_words pad joined filled task_list_of id_of
fresh_packed block = refl

pub demand_3_record : Demand3Record
demand_3_record block = subst Demand3RecordFrom (sym (fresh_packed block)) (demand_3_pack (fresh (length block)) (fresh_inv (length block)) [] block (fresh_stands block))

pub fresh_sound : (block : List ℕ) → sound_of (fresh_with block) ≡ true
fresh_sound block = ap sound_of (fresh_packed block) ∙ pack_sound (fresh (length block)) (fresh_inv (length block)) [] block (fresh_stands block)

-- a step answers an unsound record 15 or 14 and leaves it, so no step makes one sound
pub step_verdict : (h : Whole) (x : Step) → Typed h.state → sound_of (step_by h x).whole ≡ sound_of h
unfolding step_by stays
step_verdict h x T = elim (which (sound_of h)) [
  | inl e ↦ step_sound_lem h T e x ∙ sym e
  | inr e ↦ by_test (λ (A : After). sound_of A.whole ≡ sound_of h) (is_formed x) (λ f. rw e e) (λ f. refl)
]

-- and hands on a record with the lengths and the numbers of its type
pub step_typed : (h : Whole) (x : Step) → Typed h.state → Typed (step_by h x).whole.state
unfolding step_by stays
step_typed h x T = elim (which (sound_of h)) [
  | inl e ↦ (let K = handed h T e x in
      let I = (fair_step (view h) (sound_view h e) x).sound in
      rw K.whole (pack_typed (step (view h) x).state I K.o (omega (arith, K.there.oldest_column, I.facts.few_queues))))
  | inr e ↦ by_test (λ (A : After). Typed A.whole.state) (is_formed x) (λ f. rw e T) (λ f. T)
]

-- the same state packed again where it came from
left_alone : (h : Whole) (T : Typed h.state) (e : sound_of h ≡ true) (x : Step) (n : ℕ) (s : Model) → (n == 0) ≡ false → s ≡ view h
    → whole (pack (oldest_for h.state.queues x n) s) (pack_words s.tables) (block_for h x n) ≡ h
left_alone h T e x n s z same =
    ap (λ y. whole (pack (oldest_for h.state.queues x n) y) (pack_words y.tables) (block_for h x n)) same
    ∙ ap (λ y. whole (pack (oldest_for y.state.queues x n) (view h)) (pack_words (view h).tables) (block_for y x n)) (sym (whole_pack h T e))
    ∙ packed_again (view h) (sound_view h e) (oldest_in h.state.queues) h.block (view_stands h T e) x n z
    ∙ whole_pack h T e

-- "Every number but 0 and 1 leaves the state unchanged.": the record, the words and the block too, whether the record is sound or not
pub refused_stays : (h : Whole) (x : Step) → Typed h.state → 1 < number_of (step_by h x).answer → (step_by h x).whole ≡ h
unfolding step_by after_for stays
refused_stays h x T = by_test (λ (A : After). 1 < number_of A.answer → A.whole ≡ h) (is_formed x)
    (λ f. by_test (λ (A : After). 1 < number_of A.answer → A.whole ≡ h) (sound_of h) (λ e k. go f e k) (λ e k. refl)) (λ f k. refl)
  where
    a : Ruled
    a = step_sound (view h) x

    go : is_formed x ≡ true → sound_of h ≡ true → 1 < number_of (after_for h x a).answer → (after_for h x a).whole ≡ h
    go f e k =
        let same : step (view h) x ≡ a = step_is (view h) (sound_view h e) x f in
        let above : 1 < a.number = omega (arith, number_back a.number a.value a.run) in
        left_alone h T e x a.number a.state (ne_eqb a.number 0 (λ z. omega arith)) (rw same at (refused_unchanged (view h) x) above)

-- and with a log line: demand 1 for every call
pub call_stays : (h : Whole) (c : Call) → Typed h.state → 1 < number_of (call_record h c).answer → (call_record h c).whole ≡ h
unfolding call_record in_memory stays
call_stays h c T = go c.room
  where
    A : After
    A = step_of h (request_for c.made) (message_for c.made)

    go : (room : Option ℕ) → 1 < number_of (in_memory h room A).answer → (in_memory h room A).whole ≡ h
    go none = refused_stays h (step_for (request_for c.made) (message_for c.made)) T
    go (some room) = by_test (λ (z : After). 1 < number_of z.answer → z.whole ≡ h) (nat_le (length (log_line (read_out A))) room)
        (λ e. refused_stays h (step_for (request_for c.made) (message_for c.made)) T) (λ e k. refl)
