-- What comes of each plan once its words are moved: on a packed sound state, with a block that holds its messages, what the step is defined to give.
use Rattle.std.specs.Prelude.{◌≡◌, List, [], ◌∷◌, ◌++◌, Bool, true, false, ℕ, ◌+◌, ◌*◌, ◌≤◌, ◌<◌, eqb, get_or, set, take}
use Rattle.std.proofs.Math.Path.{refl, ap, sym}
use Rattle.std.proofs.Common.{◌∙◌, arith, ne_eqb}
use Rattle.std.proofs.Math.Option.{Option, none, some}
use Rattle.std.proofs.Math.ListN.{length}
use Rattle.lists.specs.TestLaws.{clash, by_test}
use Rattle.rules.specs.Sizes.{held_words}
use Rattle.rules.specs.Tables.{QueueTable, Tables, mutex_of, sem_of, room_in, message_in, task_count, queue_count, wait_of, owner_of, width_of, depth_of, messages_of}
use Rattle.rules.specs.Levels.{links_of, best_waiter}
use Rattle.rules.specs.Step.{Step, task, mutex, sem, start, lock, unlock, pend, post, flush, sleep, yield, hold, free, tick, level, outcome, queue, send, receive, word}
use Rattle.rules.specs.Effect.{Effect, hands, caller_waits, lock_by, pass_on, pend_by, credit, flush_of, deliver, send_by, sent_by, take_in, receive_by, tick_of, yield_by, effect}
use Rattle.rules.specs.Refusal.{Row, no_credit, no_room, refusals, first_row}
use Rattle.rules.specs.Sound.{wait_count}
use Rattle.rules.specs.Invariant.{Inv}
use Rattle.rules.proofs.QueueLaws.{width_range}
use Rattle.rules.proofs.MessageLaws.{oldest_wide, sender_in}
use Rattle.rules.proofs.WaiterLaws.{awaits_waits, wait_in_lem, best_waits}
use Rattle.rules.proofs.StepLaws.{caller_in, caller_idle}
use Rattle.rules.proofs.RefusalLaws.{refused_number, refused_above, caller_by}
use Rattle.rules.proofs.OutcomeLaws.{finish_tables}
use Rattle.task_lists.specs.TaskList.{id_of}
use Rattle.rings.specs.Words.{words, laid}
use Rattle.rings.specs.Ring.{slot_of, spot}
use Rattle.rings.proofs.RingLaws.{spot_in}
use Rattle.rings.proofs.TakeLaws.{take_first}
use Rattle.rings.specs.Held.{held}
use Rattle.rings.proofs.HeldLaws.{held_front}
use Rattle.moves.specs.Fits.{Holds, Swaps}
use Rattle.moves.specs.MovesLaws.{hold_moves, queue_moves, take_moves, swap_moves}
use Rattle.moves.specs.Moves.{words_after, block_after}
use Rattle.record.specs.Record.{pack_queues, pack, pack_words}
use Rattle.record.specs.Whole.{Whole}
use Rattle.record.specs.Layout.{ring_of, Stands, packed}
use Rattle.record.specs.StepRecord.{oldest_for, block_sent, block_taken, block_for, after_for}
use Rattle.record.specs.ReadLaws.{used_read}
use Rattle.record.specs.WordsPackLaws.{words_typed, held_packed, hold_packed}
use Rattle.record.specs.StandsLaws.{sits}
use Rattle.record.specs.StepStandsLaws.{oldest_back, view_back, spot_back, turn_back, refused_same}
use Rattle.machine.specs.Planned.{plan_for, carried}
use Rattle.machine.proofs.RowLaws.{Course, ruled, decided, called_some, id_some}
use Rattle.record.specs.ColumnLaws.{chosen, skipped}
use Rattle.machine.proofs.SendStepLaws.{going}
use Rattle.moves.specs.declared.Move.{Move}  -- keep
use Rattle.moves.specs.declared.Move.TheVariants.{Nothing, Hold as HoldWords, Queue as QueueWords, Take, Swap}  -- keep
use Rattle.record.specs.declared.Plan.{Plan}  -- keep
use Rattle.rules.specs.State.{State as Model, with_tables}  -- keep
use Rattle.rules.specs.Answer.{decide, step_sound}  -- keep

-- steps that leave the words held as they are
unfoldable pub is_quiet : Step → Bool
is_quiet (task p) = false
is_quiet (mutex k) = true
is_quiet (sem count max) = true
is_quiet start = true
is_quiet (lock m t) = true
is_quiet (unlock m) = true
is_quiet (pend k t) = true
is_quiet (post k) = true
is_quiet (flush k) = true
is_quiet (sleep t) = true
is_quiet yield = true
is_quiet hold = true
is_quiet free = true
is_quiet tick = true
is_quiet (level i) = true
is_quiet (outcome i) = true
is_quiet (queue w d o) = true
is_quiet (send q t m) = false
is_quiet (receive q t) = false
is_quiet (word i n) = true

module _ (s : Model) where
  abbrev Kept : Effect → Type 0
  Kept E = E.state.tables.tasks.words ≡ s.tables.tasks.words

  pub quiet_words : (y : Step) → is_quiet y ≡ true → Kept (effect s y)
  unfolding is_quiet effect caller_waits lock_by pass_on pend_by credit flush_of tick_of yield_by
  quiet_words (task p) e = absurd (clash e refl)
  quiet_words (mutex k) e = refl
  quiet_words (sem count max) e = refl
  quiet_words start e = refl
  quiet_words (lock m t) e = caller_by Kept s s.running _ refl (λ r. go r (owner_of s.tables m))
    where
      go : (r : ℕ) (o : Option ℕ) → Kept (lock_by s m t r o)
      go r none = refl
      go r (some o) = refl
  quiet_words (unlock m) e = go (best_waiter s.tables (mutex_of m))
    where
      go : (o : Option ℕ) → Kept (pass_on s m o)
      go none = refl
      go (some w) = refl
  quiet_words (pend k t) e = caller_by Kept s s.running _ refl (λ r. by_test Kept (no_credit s k) (λ f. refl) (λ f. refl))
  quiet_words (post k) e = go (best_waiter s.tables (sem_of k))
    where
      go : (o : Option ℕ) → Kept (credit s k o)
      go none = refl
      go (some w) = refl
  quiet_words (flush k) e = refl
  quiet_words (sleep t) e = caller_by Kept s s.running _ refl (λ r. refl)
  quiet_words yield e = caller_by Kept s s.running _ refl (λ r. refl)
  quiet_words hold e = refl
  quiet_words free e = refl
  quiet_words tick e = refl
  quiet_words (level i) e = refl
  quiet_words (outcome i) e = refl
  quiet_words (queue w d o) e = refl
  quiet_words (send q t m) e = absurd (clash e refl)
  quiet_words (receive q t) e = absurd (clash e refl)
  quiet_words (word i n) e = refl

-- a packed sound state with a block that holds its messages, a step and the message beside its request
module _ (s : Model) (I : Inv s) (os b : List ℕ) (S : Stands os b s.tables.queues) where
  abbrev t : Tables
  t = s.tables

  abbrev x : QueueTable
  x = s.tables.queues

  abbrev h : Whole
  h = packed os b s

  -- the course of an accepted step does what the definition says
  pub record Good (c : Course) (y : Step) (m : List ℕ) : Type 0 where
    pub oldest : oldest_for (pack_queues os x) y (effect s y).number ≡ c.after
    pub held_words : words_after c.move (pack_words t) m b ≡ pack_words (effect s y).state.tables
    pub block : block_after c.move (pack_words t) m b ≡ block_for h y (effect s y).number

  carried_parts : (c : Course) (y : Step) (m : List ℕ) → Good c y m
      → carried h m (plan_for c.after c.move (decide s y none)) ≡ after_for h y (decide s y none)
  unfolding carried plan_for after_for decide pack
  carried_parts c y m G = rw (G.oldest, finish_tables s (effect s y), ← G.held_words, ← G.block) refl

  refused_parts : (y : Step) (r : Row) (m : List ℕ) → eqb r.number 0 ≡ false → carried h m (plan_for os Nothing (decide s y (some r))) ≡ after_for h y (decide s y (some r))
  unfolding carried plan_for after_for decide pack
  refused_parts y r m e = let q = refused_same s I os b S y r.number e in rw (q.0, q.1) refl

  pub carried_ruled : (after : List ℕ) (move : Move) (y : Step) (m : List ℕ) {p : Plan} → p ≡ ruled (going os s I after move) s y (refusals s y)
      → (first_row (refusals s y) ≡ none → Good (going os s I after move) y m) → carried h m p ≡ after_for h y (step_sound s y)
  unfolding ruled decided step_sound
  carried_ruled after move y m e good = ap (carried h m) e ∙ go (first_row (refusals s y)) refl
    where
      go : (o : Option Row) → first_row (refusals s y) ≡ o → carried h m (decided (going os s I after move) s y o) ≡ after_for h y (decide s y o)
      go none f = carried_parts (going os s I after move) y m (good f)
      go (some r) f = refused_parts y r m (ne_eqb r.number 0 (λ z. omega (arith, refused_above r.number (refused_number s y r f))))

  -- the words packed after a step that leaves them
  kept_words : (E : Effect) → Kept s E → pack_words E.state.tables ≡ pack_words t
  unfolding pack_words
  kept_words E e = rw e refl

  -- a quiet step that is no creation of a queue
  pub carried_still : (y : Step) (m : List ℕ) → ((n : ℕ) → (oldest_for (pack_queues os x) y n ≡ os) × (block_for h y n ≡ b)) → (first_row (refusals s y) ≡ none → pack_words (effect s y).state.tables ≡ pack_words t) → {p : Plan}
      → p ≡ plan_for os Nothing (step_sound s y) → carried h m p ≡ after_for h y (step_sound s y)
  unfolding step_sound
  carried_still y m same words e = ap (carried h m) e ∙ go (first_row (refusals s y)) refl
    where
      go : (o : Option Row) → first_row (refusals s y) ≡ o → carried h m (plan_for os Nothing (decide s y o)) ≡ after_for h y (decide s y o)
      go none f = carried_parts (going os s I os Nothing) y m (record { oldest = (same (effect s y).number).0; held_words = sym (words f); block = sym (same (effect s y).number).1 })
      go (some r) f = refused_parts y r m (ne_eqb r.number 0 (λ z. omega (arith, refused_above r.number (refused_number s y r f))))

  pub carried_quiet : (y : Step) (m : List ℕ) → is_quiet y ≡ true → ((n : ℕ) → (oldest_for (pack_queues os x) y n ≡ os) × (block_for h y n ≡ b)) → {p : Plan}
      → p ≡ plan_for os Nothing (step_sound s y) → carried h m p ≡ after_for h y (step_sound s y)
  carried_quiet y m q same = carried_still y m same (λ f. kept_words (effect s y) (quiet_words s y q))

  -- a new queue
  pub queue_good : (w d : ℕ) (p : Option ℕ) (m : List ℕ) → Good (going os s I (os ++ (0 ∷ [])) Nothing) (queue w d p) m
  unfolding oldest_for block_for effect pack_words
  queue_good w d p m = record { oldest = ap (λ l. l ++ (0 ∷ [])) (oldest_back s I os b S); held_words = refl; block = refl }

  -- a message that a task holds
  hold_fits : (i : ℕ) (m : List ℕ) → i < task_count t → length m ≤ held_words → words_after (HoldWords i) (pack_words t) m b ≡ pack_words (hands t i m)
  hold_fits i m low short = (hold_moves (pack_words t) m b i (record { place = omega (arith, words_typed t I.facts, I.facts.few_tasks); size = short })).0 ∙ hold_packed t I.facts i m low short

  module _ (q : ℕ) (low : q < queue_count t) where
    wide_short : (m : List ℕ) → length m ≡ width_of t q → length m ≤ held_words
    wide_short m e = omega (arith, e, (width_range (width_of t q) (I.facts.queues q low).width_in).1)

    -- an accepted send or receive, by its effect
    good_by : (c : Course) (y : Step) (m : List ℕ) (E : Effect) → effect s y ≡ E → oldest_for (pack_queues os x) y E.number ≡ c.after
        → words_after c.move (pack_words t) m b ≡ pack_words E.state.tables → block_after c.move (pack_words t) m b ≡ block_for h y E.number → Good c y m
    good_by c y m E e o w k = record {
      oldest = ap (λ z. oldest_for (pack_queues os x) y z.number) e ∙ o;
      held_words = w ∙ ap (λ z. pack_words z.state.tables) (sym e);
      block = k ∙ ap (λ z. block_for h y z.number) (sym e);
    }

    -- what a send does, by what it meets
    module _ (time : ℕ) (m : List ℕ) (wide : length m ≡ width_of t q) (r : ℕ) (run : s.running ≡ some r) where
      called_send : effect s (send q time m) ≡ send_by s q time m r
      unfolding effect
      called_send = called_some s s.running (send_by s q time m) r run

      pub full_good : no_room s q ≡ true → Good (going os s I os (HoldWords (id_of s.running))) (send q time m) m
      unfolding oldest_for block_for send_by caller_waits pack_words
      full_good full = good_by _ (send q time m) m (caller_waits (with_tables s (hands t r m)) r (room_in q) time (links_of t r (room_in q))) (called_send ∙ chosen _ _ _ full) (oldest_back s I os b S)
          (ap (λ i. words_after (HoldWords i) (pack_words t) m b) (id_some s.running r run) ∙ hold_fits r m (caller_in s I r run) (wide_short m wide)) refl

      pub tail_good : no_room s q ≡ false → best_waiter t (message_in q) ≡ none → Good (going os s I os (QueueWords (spot (ring_of os x q) (length (messages_of t q))))) (send q time m) m
      unfolding oldest_for block_for block_sent send_by deliver pack_words pack
      tail_good gap best = good_by _ (send q time m) m (deliver s q m none) (called_send ∙ skipped _ _ _ gap ∙ ap (deliver s q m) best) (oldest_back s I os b S) refl
          ((queue_moves (pack_words t) m b (spot (ring_of os x q) (length (messages_of t q))) fits).1
          ∙ sym (rw (view_back s I os b S, best, spot_back s I os b S q _ (length (messages_of t q)) (used_read t os q)) refl))
        where
          fits : spot (ring_of os x q) (length (messages_of t q)) + length m ≤ length b
          fits = omega (arith, spot_in (length b) (ring_of os x q) (sits t I.facts os b S q low) (length (messages_of t q)) (I.facts.queues q low).room, (sits t I.facts os b S q low).within)

      pub handed_good : no_room s q ≡ false → (w : ℕ) → best_waiter t (message_in q) ≡ some w → Good (going os s I os (HoldWords w)) (send q time m) m
      unfolding oldest_for block_for block_sent send_by deliver pack_words
      handed_good gap w best = good_by _ (send q time m) m (deliver s q m (some w)) (called_send ∙ skipped _ _ _ gap ∙ ap (deliver s q m) best) (oldest_back s I os b S)
          (hold_fits w m (wait_in_lem t I.facts w (omega (arith, awaits_waits (wait_of t w) (message_in q) (best_waits t I.facts (message_in q) w best)))) (wide_short m wide))
          (sym (rw (view_back s I os b S, best) refl))

    -- what a receive does, by what it meets
    module _ (time : ℕ) (n : List ℕ) (r : ℕ) (run : s.running ≡ some r) where
      called_receive : effect s (receive q time) ≡ receive_by s q time r (messages_of t q)
      unfolding effect
      called_receive = called_some s s.running (λ z. receive_by s q time z (messages_of t q)) r run

      pub empty_good : messages_of t q ≡ [] → Good (going os s I os Nothing) (receive q time) n
      unfolding oldest_for block_for receive_by caller_waits pack_words
      empty_good e = good_by _ (receive q time) n (caller_waits s r (message_in q) time 0) (called_receive ∙ ap (receive_by s q time r) e) (oldest_back s I os b S) refl refl

      module _ (m : List ℕ) (ms : List (List ℕ)) (e : messages_of t q ≡ m ∷ ms) where
        wide : length m ≡ width_of t q
        wide = oldest_wide t I.facts q low m ms e r (caller_in s I r run) (caller_idle s I r run)

        -- the oldest message is what stands at its place
        oldest_there : words (spot (ring_of os x q) 0) (width_of t q) b ≡ m
        oldest_there = head_same _ _ _ _ (sym (take_first b (ring_of os x q) (sits t I.facts os b S q low) (omega (arith, ap length e))) ∙ S.there q low ∙ e)
          where
            head_same : (u v : List ℕ) (us vs : List (List ℕ)) → u ∷ us ≡ v ∷ vs → u ≡ v
            head_same u v us vs p = ap (λ l. get_or l 0 []) p

        within : spot (ring_of os x q) 0 + width_of t q ≤ length b
        within = omega (arith, spot_in (length b) (ring_of os x q) (sits t I.facts os b S q low) 0 (omega arith), (sits t I.facts os b S q low).within)

        holds : (i : ℕ) → i < task_count t → Holds (length (pack_words t)) i (width_of t q)
        holds i h = record { place = omega (arith, words_typed t I.facts, I.facts.few_tasks); size = (width_range (width_of t q) (I.facts.queues q low).width_in).1 }

        taken_words : held (pack_words t) r (words (spot (ring_of os x q) 0) (width_of t q) b) ≡ pack_words (hands t r m)
        taken_words = ap (held (pack_words t) r) oldest_there ∙ hold_packed t I.facts r m (caller_in s I r run) (wide_short m wide)

        pub took_good : best_waiter t (room_in q) ≡ none
            → Good (going os s I (set os q (slot_of (get_or os q 0) (depth_of t q) 1)) (Take (spot (ring_of os x q) 0) (width_of t q) (id_of s.running))) (receive q time) n
        unfolding oldest_for block_for block_taken receive_by take_in pack_words
        took_good best = good_by _ (receive q time) n (take_in s q r m ms none) (called_receive ∙ ap (receive_by s q time r) e ∙ ap (take_in s q r m ms) best) (turn_back s I os b S q)
            (ap (λ i. words_after (Take (spot (ring_of os x q) 0) (width_of t q) i) (pack_words t) n b) (id_some s.running r run)
            ∙ (take_moves (pack_words t) n b (spot (ring_of os x q) 0) (width_of t q) r (record { within = within; room = holds r (caller_in s I r run) })).0 ∙ taken_words)
            (ap (λ i. block_after (Take (spot (ring_of os x q) 0) (width_of t q) i) (pack_words t) n b) (id_some s.running r run)
            ∙ (take_moves (pack_words t) n b (spot (ring_of os x q) 0) (width_of t q) r (record { within = within; room = holds r (caller_in s I r run) })).1
            ∙ sym (rw (view_back s I os b S, best) refl))

        module _ (w : ℕ) (best : best_waiter t (room_in q) ≡ some w) where
          sender : w < task_count t
          sender = sender_in t I.facts q low m ms e r (caller_in s I r run) (caller_idle s I r run) w best

          -- the sender waits, the caller doesn't
          others : w ≡ r → ⊥
          unfolding wait_count
          others z = absurd (omega (arith, awaits_waits (wait_of t w) (room_in q) (best_waits t I.facts (room_in q) w best), ap (λ i. wait_count (wait_of t i)) z, ap wait_count (caller_idle s I r run)))

          fits : Swaps (length (pack_words t)) (length b) (spot (ring_of os x q) 0) (width_of t q) r w
          fits = record { taken = record { within = within; room = holds r (caller_in s I r run) }; sent = holds w sender }

          -- what the sender holds is the message that it sends
          sender_words : words (held_words * w) (width_of t q) (pack_words t) ≡ sent_by t q w
          sender_words = held_front (pack_words t) w (width_of t q) (width_range (width_of t q) (I.facts.queues q low).width_in).1 ∙ ap (λ l. take (width_of t q) l) (held_packed t I.facts w sender)

          pub swapped_good : Good (going os s I (set os q (slot_of (get_or os q 0) (depth_of t q) 1)) (Swap (spot (ring_of os x q) 0) (width_of t q) (id_of s.running) w)) (receive q time) n
          unfolding oldest_for block_for block_taken receive_by take_in pack_words pack
          swapped_good = good_by _ (receive q time) n (take_in s q r m ms (some w)) (called_receive ∙ ap (receive_by s q time r) e ∙ ap (take_in s q r m ms) best) (turn_back s I os b S q)
              (ap (λ i. words_after (Swap (spot (ring_of os x q) 0) (width_of t q) i w) (pack_words t) n b) (id_some s.running r run)
              ∙ (swap_moves (pack_words t) n b (spot (ring_of os x q) 0) (width_of t q) r w fits others).0 ∙ taken_words)
              (ap (λ i. block_after (Swap (spot (ring_of os x q) 0) (width_of t q) i w) (pack_words t) n b) (id_some s.running r run)
              ∙ (swap_moves (pack_words t) n b (spot (ring_of os x q) 0) (width_of t q) r w fits others).1
              ∙ ap (laid b (spot (ring_of os x q) 0)) sender_words
              ∙ sym (rw (view_back s I os b S, best, view_back s I os b S, spot_back s I os b S q 0 0 refl) refl))
