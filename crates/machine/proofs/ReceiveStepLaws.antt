-- Receive on a packed sound state: the packed rule, and what is to be moved.
use Rattle.std.specs.Prelude.{◌≡◌, List, [], ◌∷◌, ◌++◌, Bool, not, eqb, get_or, set}
use Rattle.std.proofs.Math.Path.{refl, ap}
use Rattle.std.proofs.Common.{sym, ◌∙◌, arith}
use Rattle.std.proofs.Math.Bool.{true, false, cond}
use Rattle.std.proofs.Math.Option.{Option, none, some}
use Prim.Native.Nat.{ℕ, ◌-◌, ◌<◌}
use Rattle.std.proofs.Math.ListN.{length}
use borrow.Author.Tests.{leb-false, not-true, not-false, eqb-true, eq-eqb, ne_eqb}
use Rattle.lists.specs.Test.{◌and◌, ◌or◌, someb}
use Rattle.lists.specs.TestLaws.{clash, by_test, and_l, and_r, and_false}
use Rattle.lists.specs.TableLaws.{length_snoc}
use Rattle.rules.specs.Sizes.{granted, on_time}
use Rattle.rules.specs.Tables.{room_in, message_in, queue_count, wait_of, width_of, depth_of, queue_owner_of, messages_of}
use Rattle.rules.specs.Tables.{awaited_kind, awaited_object}
use Rattle.rules.specs.Levels.{owner_awaited, heir_awaited, lends, best_waiter}
use Rattle.rules.specs.Step.{Step, receive}
use Rattle.rules.specs.Effect.{set_messages, hands, end_waits, ended, caller_waits, sent_by, take_in, receive_by, effect}
use Rattle.rules.specs.Settle.{settle, dispatch}
use Rattle.rules.specs.Refusal.{Row, ◌when◌, is_waiting_time, held, no_message, caller_owns_queue, may_receive, refusals}
use Rattle.rules.specs.Invariant.{Facts, Inv}
use Rattle.rules.proofs.MessageLaws.{took_facts, swapped_facts}
use Rattle.rules.proofs.WaiterLaws.{places_end, awaits_lends, best_waits}
use Rattle.rules.proofs.StepLaws.{left_wait, caller_in, caller_idle, may_receive_lem}
use Rattle.task_lists.specs.TaskList.{no_id, id_of}
use Rattle.rings.specs.Ring.{slot_of, spot}
use Rattle.record.specs.Record.{kind_code, pack_tasks, pack_mutexes, pack_semaphores, pack_queues, pack}
use Rattle.record.specs.Layout.{ring_of}
use Rattle.record.specs.Reads.{queue_owner_at}
use Rattle.machine.specs.Machine.{single, settled, dispatched, woke, entered, used_set, oldest_set, width_at, used_at, place_at, next_oldest, answer_moving, sent_off, taken_in, receive_on, may_take, receive_step}
use Rattle.record.specs.PackLaws.{level_column, pack_with}
use Rattle.record.specs.ReadLaws.{queue_owner_read, width_read, used_read}
use Rattle.record.specs.ColumnLaws.{chosen, skipped}
use Rattle.machine.proofs.FlagLaws.{single_flags}
use Rattle.machine.proofs.WaitLaws.{best_pack}
use Rattle.machine.proofs.EffectLaws.{woke_pack}
use Rattle.machine.proofs.ObjectLaws.{level_same, lends_end, lends_messages, lends_hands}
use Rattle.machine.proofs.QueueObjectLaws.{place_packed, next_packed, used_set_lem, used_same, oldest_set_lem}
use Rattle.machine.proofs.RowLaws.{Course, still, ruled, on_row, on_accept, called_some, on_caller}
use Rattle.machine.proofs.StageLaws.{unchanged_pack, settle_pack}
use Rattle.machine.proofs.FinishLaws.{quiet_pack, one_finish}
use Rattle.machine.proofs.WaitStepLaws.{may_wait_lem, time_test, wait_finish, best_named, best_ended, best_below}
use Rattle.machine.proofs.SendStepLaws.{going, queue_owner_at_lem, owns_queue_test, unowned_test}
use Rattle.moves.specs.declared.Move.{Move}  -- keep
use Rattle.moves.specs.declared.Move.TheVariants.{Nothing, Take, Swap}  -- keep
use Rattle.record.specs.declared.State.{State}  -- keep
use Rattle.record.specs.declared.Queues.{Queues}  -- keep
use Rattle.record.specs.declared.Plan.{Plan}  -- keep
use Rattle.record.specs.Setters.{put_queues}  -- keep
use Rattle.rules.specs.State.{State as Model, with_tables, level_of}  -- keep
use Rattle.rules.specs.Tables.{Tables}  -- keep

module _ (os : List ℕ) (s : Model) (I : Inv s) where
  -- tests of a queue
  empty_test : (q : ℕ) → eqb (used_at (pack os s).queues q) 0 ≡ no_message s q
  unfolding pack
  empty_test q = rw (used_read s.tables os q) refl

  take_test : (q r : ℕ) → s.running ≡ some r → may_take (queue_owner_at (pack os s).queues q) (pack os s).running ≡ may_receive s q
  unfolding may_take ◌or◌
  take_test q r run = ap (λ z. cond z true (eqb (queue_owner_at (pack os s).queues q) (pack os s).running)) (unowned_test os s I q)
      ∙ ap (cond (not (someb (queue_owner_of s.tables q))) true) (owns_queue_test os s I q r run) ∙ or_cond (not (someb (queue_owner_of s.tables q))) (caller_owns_queue s q)
    where
      or_cond : (a b : Bool) → cond a true b ≡ a or b
      or_cond true b = refl
      or_cond false b = refl

  module _ (q t : ℕ) where
    abbrev x : Step
    x = receive q t

    -- the rows behind those of any receive that may be made
    abbrev later : List Row
    later = (3 when no_message s q and eqb t 0) ∷ (11 when no_message s q and held s) ∷ []

    receive_rows : (after : List ℕ) (move : Move) → ((r : ℕ) → s.running ≡ some r → q < queue_count s.tables → is_waiting_time t ≡ true → may_receive s q ≡ true
        → receive_on (pack os s) q t ≡ ruled (going os s I after move) s x later) → receive_step (pack os s) q t ≡ ruled (going os s I after move) s x (refusals s x)
    unfolding receive_step pack pack_queues refusals
    receive_rows after move f = on_caller (going os s I after move) s I x _ (λ r on b run. on_row (going os s I after move) s x _ _ refl (λ e. chosen _ _ _ e) (λ e. skipped _ _ _ e
        ∙ on_row (going os s I after move) s x _ _ refl (λ g. skipped _ _ _ (time_test t ∙ not-true (is_waiting_time t) g)) (λ g. chosen _ _ _ (time_test t ∙ not-false (is_waiting_time t) g)
        ∙ on_row (going os s I after move) s x _ _ refl (λ k. skipped _ _ _ (take_test q r run ∙ not-true (may_receive s q) k)) (λ k. chosen _ _ _ (take_test q r run ∙ not-false (may_receive s q) k)
        ∙ f r run (leb-false (queue_count s.tables) q e) (not-false (is_waiting_time t) g) (not-false (may_receive s q) k)))))

    -- the queue is empty: the caller waits
    pub empty_pack : messages_of s.tables q ≡ [] → receive_step (pack os s) q t ≡ ruled (still os) s x (refusals s x)
    unfolding pack effect receive_by caller_waits awaited_kind awaited_object owner_awaited
    empty_pack e = receive_rows os Nothing (λ r run low valid own. chosen _ _ _ (empty_test q ∙ none) ∙ may_wait_lem (pack os s) t _
        ∙ on_row (still os) s x _ _ refl (λ f. chosen _ _ _ (and_r _ _ f)) (λ f. skipped _ _ _ (and_false _ _ none f)
        ∙ on_row (still os) s x _ _ refl (λ g. chosen _ _ _ (and_r _ _ g)) (λ g. skipped _ _ _ (and_false _ _ none g)
        ∙ on_accept (still os) s x (caller_waits s r (message_in q) t 0) _ (called_some s s.running (λ z. receive_by s q t z (messages_of s.tables q)) r run ∙ ap (receive_by s q t r) e) refl
        (wait_finish os s I r (message_in q) t 0 run (low, ap length e) (may_receive_lem s q r run own) (left_wait (message_in q) t refl valid (and_false _ _ none f)) refl))))
      where
        none : no_message s q ≡ true
        none = eq-eqb _ _ (ap length e)

    -- it has a message, m, and ms behind it
    module _ (m : List ℕ) (ms : List (List ℕ)) (e : messages_of s.tables q ≡ m ∷ ms) where
      filled_up : no_message s q ≡ false
      filled_up = ne_eqb (length (messages_of s.tables q)) 0 (λ z. omega (arith, ap length e))

      passes : (c : Course) {p : Plan} → p ≡ ruled c s x [] → p ≡ ruled c s x later
      passes c f = on_row c s x _ _ refl (λ g. absurd (clash (and_l _ _ g) filled_up)) (λ g. on_row c s x _ _ refl (λ k. absurd (clash (and_l _ _ k) filled_up)) (λ k. f))

      -- where the oldest message then stands, and where it stood
      abbrev pub turn : ℕ
      turn = slot_of (get_or os q 0) (depth_of s.tables q) 1

      abbrev pub place : ℕ
      place = spot (ring_of os s.tables.queues q) 0

      module _ (column : length os ≡ queue_count s.tables) (in_ring : get_or os q 0 < depth_of s.tables q) (r : ℕ) (run : s.running ≡ some r) (low : q < queue_count s.tables) where
        -- the numbers of the queue, as the code works them out
        turned : oldest_set (pack os s).queues q (next_oldest (pack os s).queues q) ≡ pack_queues (set os q turn) s.tables.queues
        unfolding pack
        turned = ap (oldest_set (pack_queues os s.tables.queues) q) (next_packed s.tables I.facts os q in_ring) ∙ oldest_set_lem s.tables I.facts os q turn low (omega arith)

        -- nobody waits to send
        take_none : best_waiter s.tables (room_in q) ≡ none → receive_on (pack os s) q t ≡ ruled (going os s I (set os q turn) (Take place (width_of s.tables q) (id_of s.running))) s x later
        unfolding taken_in pack pack_tasks pack_mutexes pack_semaphores pack_with level_column effect receive_by take_in awaited_kind awaited_object id_of
        take_none best = skipped _ _ _ (empty_test q ∙ filled_up) ∙ ap (taken_in (pack os s) q) (best_pack os s (room_in q) ∙ ap id_of best)
            ∙ passes (going os s I (set os q turn) (Take place (width_of s.tables q) (id_of s.running)))
            (ap (λ z. made z (place_at (pack os s).queues q 0) (width_at (pack os s).queues q)) fewer
            ∙ ap (λ z. made (pack_queues (set os q turn) (set_messages s.tables q ms).queues) z (width_at (pack os s).queues q)) (place_packed s.tables I.facts os q 0 low)
            ∙ ap (made (pack_queues (set os q turn) (set_messages s.tables q ms).queues) place) (width_read s.tables os q)
            ∙ on_accept (going os s I (set os q turn) (Take place (width_of s.tables q) (id_of s.running))) s x (take_in s q r m ms none) _
            (called_some s s.running (λ z. receive_by s q t z (messages_of s.tables q)) r run ∙ ap (receive_by s q t r) e ∙ ap (take_in s q r m ms) best) refl
            (quiet_pack (set os q turn) s I (hands (set_messages s.tables q ms) r m) s.clock s.hold
            (took_facts s.tables I.facts q low m ms e r (caller_in s I r run) (caller_idle s I r run) best) refl refl
            (level_same s.tables (hands (set_messages s.tables q ms) r m) (λ i. lends_hands (set_messages s.tables q ms) r m i ∙ lends_messages s.tables q ms i) refl) (λ z. z)))
          where
            made : Queues → ℕ → ℕ → Plan
            made y p w = answer_moving (put_queues (pack os s) y) 0 0 (Take p w (pack os s).running)

            shrunk : used_at (pack os s).queues q - 1 ≡ length ms
            shrunk = ap (λ z. z - 1) (used_read s.tables os q) ∙ omega (arith, ap length e)

            fewer : used_set (oldest_set (pack os s).queues q (next_oldest (pack os s).queues q)) q (used_at (pack os s).queues q - 1) ≡ pack_queues (set os q turn) (set_messages s.tables q ms).queues
            fewer = ap (λ z. used_set z q (used_at (pack os s).queues q - 1)) turned ∙ ap (used_set (pack_queues (set os q turn) s.tables.queues) q) shrunk ∙ used_set_lem s.tables I.facts (set os q turn) q ms low

        -- the best waiting sender's message goes to the place that was left
        module _ (w : ℕ) (best : best_waiter s.tables (room_in q) ≡ some w) where
          abbrev sent : List ℕ
          sent = sent_by s.tables q w

          abbrev ready : Tables
          ready = hands (set_messages (end_waits s.tables (eqb w) (λ i. granted)) q (ms ++ (sent ∷ []))) r m

          -- the queue has as many messages as before
          same_used : pack_queues (set os q turn) s.tables.queues ≡ pack_queues (set os q turn) ready.queues
          same_used = used_same s.tables I.facts (set os q turn) q (ms ++ (sent ∷ [])) (length_snoc ms sent ∙ sym (ap length e))

          off_woke : woke (put_queues (pack os s) (pack_queues (set os q turn) s.tables.queues)) (single w) granted granted ≡ pack_with (set os q turn) (level_column s.tables) (with_tables s ready)
          unfolding woke pack pack_with pack_tasks pack_mutexes pack_semaphores
          off_woke = ap (λ z. put_queues z (pack_queues (set os q turn) s.tables.queues))
              (woke_pack os s I.facts (eqb w) (best_named os s I (room_in q) w best) (single w) (single_flags w (best_below os s I (room_in q) w best)) (λ i. granted) granted granted
              (λ i f. by_test (λ (z : ℕ). z ≡ granted) (eqb (kind_code (wait_of s.tables i)) on_time) (λ g. refl) (λ g. refl)))
              ∙ ap (put_queues (pack_with os (level_column s.tables) (with_tables s (end_waits s.tables (eqb w) (λ i. granted))))) same_used

          F : Facts ready
          F = swapped_facts s.tables I.facts q low m ms e r (caller_in s I r run) (caller_idle s I r run) w best

          enters : (k : State) → k ≡ pack (set os q turn) (settle (level_of s) (with_tables s ready) []) → dispatched (entered k w) ≡ pack (set os q turn) (dispatch (settle (level_of s) (with_tables s ready) (ended s.tables (eqb w))))
          enters k f = one_finish (set os q turn) s I (with_tables s ready) (ended s.tables (eqb w)) F (places_end s ready (eqb w) refl refl I.places) k f w (best_ended os s I (room_in q) w best)

          off_finish : (o : Option ℕ) → queue_owner_of s.tables q ≡ o → (k : State) → k ≡ pack_with (set os q turn) (level_column s.tables) (with_tables s ready)
              → cond (not (someb o)) (dispatched (entered k w)) (dispatched (entered (settled k) w)) ≡ pack (set os q turn) (dispatch (settle (level_of s) (with_tables s ready) (ended s.tables (eqb w))))
          unfolding someb heir_awaited
          off_finish none own k f = enters k (f ∙ unchanged_pack (set os q turn) s (with_tables s ready) refl I.ascending
              (λ c h. level_same s.tables ready (λ i. lends_hands (set_messages (end_waits s.tables (eqb w) (λ j. granted)) q (ms ++ (sent ∷ []))) r m i
              ∙ lends_messages (end_waits s.tables (eqb w) (λ j. granted)) q (ms ++ (sent ∷ [])) i ∙ lends_end s.tables (eqb w) (λ j. granted)
              (λ j g. ap (lends s.tables) (sym (eqb-true w j g)) ∙ awaits_lends s.tables (room_in q) w (best_waits s.tables I.facts (room_in q) w best) ∙ own) i) refl c))
          off_finish (some o) own k f = enters (settled k) (ap settled f ∙ settle_pack (set os q turn) s (with_tables s ready) F refl (λ i. omega (arith, I.places i)) I.ascending)

          sent_off_lem : (y : Queues) → y ≡ pack_queues (set os q turn) s.tables.queues
              → sent_off (put_queues (pack os s) y) q w ≡ pack (set os q turn) (dispatch (settle (level_of s) (with_tables s ready) (ended s.tables (eqb w))))
          unfolding sent_off
          sent_off_lem y f = ap (λ z. sent_off (put_queues (pack os s) z) q w) f
              ∙ ap (λ z. cond z (dispatched (entered k w)) (dispatched (entered (settled k) w))) (owner_kept ∙ unowned_test os s I q) ∙ off_finish (queue_owner_of s.tables q) refl k off_woke
            where
              k : State
              k = woke (put_queues (pack os s) (pack_queues (set os q turn) s.tables.queues)) (single w) granted granted

              owner_kept : eqb (queue_owner_at (pack_queues (set os q turn) s.tables.queues) q) no_id ≡ eqb (queue_owner_at (pack os s).queues q) no_id
              owner_kept = ap (λ z. eqb z no_id) (queue_owner_read s.tables (set os q turn) q ∙ sym (queue_owner_at_lem os s I q))

          swap_move : Swap (place_at (pack os s).queues q 0) (width_at (pack os s).queues q) (pack os s).running w ≡ Swap place (width_of s.tables q) (id_of s.running) w
          unfolding pack
          swap_move = ap (λ z. Swap z (width_at (pack_queues os s.tables.queues) q) (id_of s.running) w) (place_packed s.tables I.facts os q 0 low)
              ∙ ap (λ z. Swap place z (id_of s.running) w) (width_read s.tables os q)

          take_sent : receive_on (pack os s) q t ≡ ruled (going os s I (set os q turn) (Swap place (width_of s.tables q) (id_of s.running) w)) s x later
          unfolding taken_in effect receive_by take_in awaited_kind awaited_object id_of
          take_sent = skipped _ _ _ (empty_test q ∙ filled_up) ∙ ap (taken_in (pack os s) q) (best_pack os s (room_in q) ∙ ap id_of best)
              ∙ skipped _ _ _ (ne_eqb w no_id (λ z. omega (arith, best_below os s I (room_in q) w best)))
              ∙ passes (going os s I (set os q turn) (Swap place (width_of s.tables q) (id_of s.running) w))
              (moved_by
              ∙ on_accept (going os s I (set os q turn) (Swap place (width_of s.tables q) (id_of s.running) w)) s x (take_in s q r m ms (some w)) _
              (called_some s s.running (λ z. receive_by s q t z (messages_of s.tables q)) r run ∙ ap (receive_by s q t r) e ∙ ap (take_in s q r m ms) best) refl
              (sent_off_lem (oldest_set (pack os s).queues q (next_oldest (pack os s).queues q)) turned))
            where
              k : State
              k = sent_off (put_queues (pack os s) (oldest_set (pack os s).queues q (next_oldest (pack os s).queues q))) q w

              moved_by : answer_moving k 0 0 (Swap (place_at (pack os s).queues q 0) (width_at (pack os s).queues q) (pack os s).running w) ≡ answer_moving k 0 0 (Swap place (width_of s.tables q) (id_of s.running) w)
              moved_by = ap (answer_moving k 0 0) swap_move

    -- a receive with nobody waiting to send, and one that takes in a sender's message
    pub took_pack : (m : List ℕ) (ms : List (List ℕ)) → messages_of s.tables q ≡ m ∷ ms → length os ≡ queue_count s.tables → (q < queue_count s.tables → get_or os q 0 < depth_of s.tables q) → best_waiter s.tables (room_in q) ≡ none
        → receive_step (pack os s) q t ≡ ruled (going os s I (set os q (slot_of (get_or os q 0) (depth_of s.tables q) 1)) (Take (spot (ring_of os s.tables.queues q) 0) (width_of s.tables q) (id_of s.running))) s x (refusals s x)
    took_pack m ms e column in_ring best = receive_rows _ _ (λ r run low valid own. take_none m ms e column (in_ring low) r run low best)

    pub swapped_pack : (m : List ℕ) (ms : List (List ℕ)) → messages_of s.tables q ≡ m ∷ ms → length os ≡ queue_count s.tables → (q < queue_count s.tables → get_or os q 0 < depth_of s.tables q) → (w : ℕ) → best_waiter s.tables (room_in q) ≡ some w
        → receive_step (pack os s) q t ≡ ruled (going os s I (set os q (slot_of (get_or os q 0) (depth_of s.tables q) 1)) (Swap (spot (ring_of os s.tables.queues q) 0) (width_of s.tables q) (id_of s.running) w)) s x (refusals s x)
    swapped_pack m ms e column in_ring w best = receive_rows _ _ (λ r run low valid own. take_sent m ms e column (in_ring low) r run low w best)
