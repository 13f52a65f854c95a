-- Send on a packed sound state: the packed rule, and what is to be moved.
use Rattle.std.specs.Prelude.{◌≡◌, Bool, true, false, ℕ, ◌+◌, ◌≤◌, ◌<◌, ltb, length}
use Rattle.std.proofs.Math.Path.{refl, ap, sym}
use Rattle.std.proofs.Common.{◌∙◌, inl, inr, arith}
use mathlib.Core.List.{List, [], ◌∷◌, ◌++◌}
use Rattle.std.proofs.Math.Bool.{cond, not}
use Rattle.std.proofs.Math.Option.{Option, none, some}
use Rattle.std.proofs.Math.Dec.{eqb}
use borrow.Author.Tests.{leb-false, lt-ltb, le-ltb, not-false, eqb-true, eqb-false, ne_eqb}
use Rattle.lists.specs.Test.{◌and◌, ◌or◌, someb, holds}
use Rattle.lists.specs.Count.{occ, member, opt}
use Rattle.lists.specs.Order.{before}
use Rattle.lists.specs.TestLaws.{which, clash, by_test, and_l, and_r, and_false, or_none}
use Rattle.lists.specs.CountLaws.{occ_append}
use Rattle.lists.specs.TableLaws.{length_snoc}
use Rattle.rules.specs.Sizes.{granted, on_time, on_send}
use Rattle.rules.specs.Tables.{room_in, message_in, queue_count, wait_of, width_of, depth_of, queue_owner_of, messages_of, wait_for}
use Rattle.rules.specs.Tables.{awaited_kind, awaited_object}
use Rattle.rules.specs.Levels.{heir_awaited, lends, chain_of, links_of, closes_ring, best_waiter}
use Rattle.rules.specs.Step.{Step, send}
use Rattle.rules.specs.Effect.{set_messages, hands, begin_wait, end_waits, ended, caller_waits, deliver, send_by, effect}
use Rattle.rules.specs.Settle.{settle, dispatch}
use Rattle.rules.specs.Refusal.{Row, ◌when◌, is_waiting_time, held, of_caller, no_room, caller_owns_queue, ring_row, refusals}
use Rattle.rules.specs.Invariant.{Facts, Inv}
use Rattle.rules.proofs.FactsLaws.{facts_begin}
use Rattle.rules.proofs.QueueLaws.{chain_held}
use Rattle.rules.proofs.MessageLaws.{held_facts, held_suits, sent_facts, handed_facts}
use Rattle.rules.proofs.WaiterLaws.{places_end, awaits_lends, best_waits}
use Rattle.rules.proofs.StepLaws.{left_wait, caller_in, caller_idle, of_caller_lem}
use Rattle.task_lists.specs.TaskList.{no_id, id_of}
use Rattle.rings.specs.Ring.{spot}
use Rattle.record.specs.Record.{kind_code, pack_tasks, pack_mutexes, pack_semaphores, pack_queues, pack}
use Rattle.record.specs.Layout.{ring_of}
use Rattle.record.specs.Reads.{queue_owner_at}
use Rattle.machine.specs.Machine.{single, settled, dispatched, woke, entered, blocked_on, used_set, width_at, depth_at, used_at, place_at, answer_moving, answer_in, send_blocked, send_waits, delivered, send_on, send_step}
use Rattle.record.specs.PackLaws.{level_column, pack_with}
use Rattle.record.specs.ReadLaws.{queue_owner_read, width_read, depth_read, used_read}
use Rattle.record.specs.ColumnLaws.{chosen, skipped}
use Rattle.machine.proofs.FlagLaws.{single_flags}
use Rattle.machine.proofs.WaitLaws.{best_pack, queue_chain_pack}
use Rattle.machine.proofs.EffectLaws.{woke_pack, blocked_pack}
use Rattle.machine.proofs.ObjectLaws.{level_same, lends_begin, lends_end, lends_messages, lends_hands}
use Rattle.machine.proofs.QueueObjectLaws.{place_packed, used_set_lem}
use Rattle.machine.proofs.RowLaws.{Course, ruled, on_row, on_accept, called_some, id_code, id_some, running_below, on_caller}
use Rattle.machine.proofs.StageLaws.{unchanged_pack}
use Rattle.machine.proofs.FinishLaws.{quiet_pack, settled_finish, one_finish, unchanged_finish}
use Rattle.machine.proofs.WaitStepLaws.{may_wait_lem, time_test, best_named, best_ended, best_below}
use Rattle.machine.proofs.LockStepLaws.{holds_code, links_some}
use Rattle.moves.specs.declared.Move.{Move}  -- keep
use Rattle.moves.specs.declared.Move.TheVariants.{Hold as HoldWords, Queue as QueueWords}  -- keep
use Rattle.record.specs.declared.Plan.{Plan}  -- keep
use Rattle.record.specs.Setters.{put_queues}  -- keep
use Rattle.rules.specs.State.{State as Model, with_tables, placed, level_of}  -- keep
use Rattle.rules.specs.Tables.{Tables}  -- keep

-- two tests that refuse alike
both_tests : {A : Type 0} (a b : Bool) (x y : A) → cond a (cond b x y) y ≡ cond (not a or not b) y x
unfolding ◌or◌
both_tests true true x y = refl
both_tests true false x y = refl
both_tests false b x y = refl

-- of no more messages than there is room for, there is room for one more, or none
below_or_full : (used depth : ℕ) → used ≤ depth → ltb used depth ≡ not (eqb used depth)
below_or_full used depth h = elim (which (eqb used depth)) [
  | inl e ↦ le-ltb used depth (omega (arith, eqb-true used depth e)) ∙ ap not (sym e)
  | inr e ↦ lt-ltb used depth (omega (arith, eqb-false used depth e)) ∙ ap not (sym e)
]

module _ (os : List ℕ) (s : Model) (I : Inv s) where
  -- a step after which the oldest messages stand at `after`
  abbrev pub going : List ℕ → Move → Course
  going after move = record { before = os; after = after; move = move }

  -- tests of a queue
  pub queue_owner_at_lem : (q : ℕ) → queue_owner_at (pack os s).queues q ≡ id_of (queue_owner_of s.tables q)
  unfolding pack
  queue_owner_at_lem q = queue_owner_read s.tables os q

  pub owns_queue_test : (q r : ℕ) → s.running ≡ some r → eqb (queue_owner_at (pack os s).queues q) (pack os s).running ≡ caller_owns_queue s q
  unfolding pack
  owns_queue_test q r run = ap (λ x. eqb x (pack os s).running) (queue_owner_at_lem q) ∙ ap (eqb (id_of (queue_owner_of s.tables q))) (id_some s.running r run)
      ∙ holds_code (queue_owner_of s.tables q) r (omega (arith, running_below os s I r run)) ∙ sym (of_caller_lem s.running (holds (queue_owner_of s.tables q)) r run)

  pub unowned_test : (q : ℕ) → eqb (queue_owner_at (pack os s).queues q) no_id ≡ not (someb (queue_owner_of s.tables q))
  unowned_test q = ap (λ x. eqb x no_id) (queue_owner_at_lem q) ∙ id_code (queue_owner_of s.tables q) (λ i e. omega (arith, I.facts.owned_queues q i e, I.facts.few_tasks))

  room_test : (q : ℕ) → q < queue_count s.tables → ltb (used_at (pack os s).queues q) (depth_at (pack os s).queues q) ≡ not (no_room s q)
  unfolding pack
  room_test q low = rw (used_read s.tables os q, depth_read s.tables os q) (below_or_full (length (messages_of s.tables q)) (depth_of s.tables q) (I.facts.queues q low).room)

  -- the record of tables in which r also holds m is the same, whatever its levels
  pub blocked_held : (r : ℕ) → s.running ≡ some r → (q t : ℕ) (m : List ℕ)
      → blocked_on (pack os s) r on_send q t ≡ pack_with os (level_column s.tables) (placed (with_tables s (begin_wait (hands s.tables r m) r (wait_for (room_in q) t))) none s.ready)
  unfolding awaited_kind awaited_object pack pack_with pack_tasks pack_mutexes pack_semaphores
  blocked_held r run q t m = blocked_pack os s I r run (room_in q) t

  module _ (q t : ℕ) (m : List ℕ) where
    abbrev x : Step
    x = send q t m

    -- the rows behind those of any send to a queue
    abbrev later : List Row
    later = (9 when no_room s q and caller_owns_queue s q) ∷ (3 when no_room s q and eqb t 0) ∷ (11 when no_room s q and held s) ∷ ring_row s (no_room s q) (room_in q) ∷ []

    send_rows : (after : List ℕ) (move : Move) → ((r : ℕ) → s.running ≡ some r → q < queue_count s.tables → is_waiting_time t ≡ true → length m ≡ width_of s.tables q
        → send_on (pack os s) q t ≡ ruled (going after move) s x later) → send_step (pack os s) q t (length m) ≡ ruled (going after move) s x (refusals s x)
    unfolding send_step pack pack_queues refusals
    send_rows after move f = on_caller (going after move) s I x _ (λ r on b run. on_row (going after move) s x _ _ refl (λ e. chosen _ _ _ e) (λ e. skipped _ _ _ e
        ∙ ap (λ z. cond z (cond (eqb (length m) (width_at (pack os s).queues q)) (send_on (pack os s) q t) (answer_in (pack os s) 7 0)) (answer_in (pack os s) 7 0)) (time_test t)
        ∙ ap (λ z. cond (is_waiting_time t) (cond (eqb (length m) z) (send_on (pack os s) q t) (answer_in (pack os s) 7 0)) (answer_in (pack os s) 7 0)) (width_read s.tables os q)
        ∙ both_tests (is_waiting_time t) (eqb (length m) (width_of s.tables q)) (send_on (pack os s) q t) (answer_in (pack os s) 7 0)
        ∙ on_row (going after move) s x _ _ refl (λ g. chosen _ _ _ g) (λ g. skipped _ _ _ g
        ∙ (let n = or_none _ _ g in f r run (leb-false (queue_count s.tables) q e) (not-false (is_waiting_time t) n.0) (eqb-true (length m) (width_of s.tables q) (not-false _ n.1))))))

    module _ (r : ℕ) (run : s.running ≡ some r) (low : q < queue_count s.tables) (valid : is_waiting_time t ≡ true) (wide : length m ≡ width_of s.tables q) where
      abbrev holding : Tables
      holding = hands s.tables r m

      F : Facts holding
      F = held_facts s.tables I.facts q low m wide r (caller_in s I r run) (caller_idle s I r run)

      module _ (full : no_room s q ≡ true) (now : eqb t 0 ≡ false) (clear : closes_ring s.tables r (room_in q) ≡ false) where
        abbrev waiting : Model
        waiting = placed (with_tables s (begin_wait holding r (wait_for (room_in q) t))) none s.ready

        G : Facts waiting.tables
        unfolding awaited_kind
        G = facts_begin holding r (wait_for (room_in q) t) (caller_in s I r run) (caller_idle s I r run) (low, eqb-true (length (messages_of s.tables q)) (depth_of s.tables q) full)
            (held_suits s.tables I.facts q low m wide r (caller_in s I r run)) (left_wait (room_in q) t refl valid now)
            (ap (λ l. member r l) (chain_held s.tables r m (room_in q)) ∙ clear) F

        places : (i : ℕ) → occ i [] + (occ i s.ready + (occ i waiting.tables.tasks.waiting + occ i (opt none))) ≡ occ i [] + (occ i s.ready + (occ i s.tables.tasks.waiting + occ i (opt s.running)))
        unfolding occ
        places i = omega (arith, occ_append i s.tables.tasks.waiting (r ∷ []), ap (λ z. occ i (opt z)) run)

        blocked_finish : (o : Option ℕ) → queue_owner_of s.tables q ≡ o
            → cond (not (someb o)) (dispatched (blocked_on (pack os s) r on_send q t)) (dispatched (settled (blocked_on (pack os s) r on_send q t)))
            ≡ pack os (dispatch (settle (level_of s) waiting []))
        unfolding someb heir_awaited occ
        blocked_finish none e = ap dispatched (blocked_held r run q t m) ∙ unchanged_finish os s I waiting G refl (λ i. places i ∙ I.places i) I.ascending
            (λ i. level_same s.tables waiting.tables
            (λ j. lends_begin holding r (wait_for (room_in q) t) (omega (arith, caller_in s I r run, I.facts.wait_column)) (caller_idle s I r run) e j ∙ lends_hands s.tables r m j) refl i)
        blocked_finish (some o) e = ap (λ z. dispatched (settled z)) (blocked_held r run q t m)
            ∙ settled_finish os s I waiting G refl (λ i. places i ∙ I.places i) I.ascending

        send_blocked_lem : send_blocked (pack os s) q t ≡ pack os (dispatch (settle (level_of s) waiting []))
        unfolding send_blocked pack
        send_blocked_lem = ap (λ z. cond z (dispatched (blocked_on (pack os s) (pack os s).running on_send q t)) (dispatched (settled (blocked_on (pack os s) (pack os s).running on_send q t)))) (unowned_test q)
            ∙ ap (λ z. cond (not (someb (queue_owner_of s.tables q))) (dispatched (blocked_on (pack os s) z on_send q t)) (dispatched (settled (blocked_on (pack os s) z on_send q t)))) (id_some s.running r run)
            ∙ blocked_finish (queue_owner_of s.tables q) refl

      -- the end of a send that meets a full queue, by the chain and the caller
      abbrev waits_by : List ℕ → ℕ → Plan
      waits_by chain z =
          cond (eqb t 0) (answer_in (pack os s) 3 0)
          (cond (ltb 0 (pack os s).hold) (answer_in (pack os s) 11 0)
          (cond (member z chain) (answer_in (pack os s) 12 (length (before z chain)))
          (answer_moving (send_blocked (pack os s) q t) 1 (length (before z chain)) (HoldWords (pack os s).running))))

      waits_same : send_waits (pack os s) q t ≡ waits_by (chain_of s.tables (room_in q)) r
      unfolding send_waits pack
      waits_same = may_wait_lem (pack os s) t _ ∙ ap (λ c. waits_by c (pack os s).running) (queue_chain_pack os s I.facts q) ∙ ap (waits_by (chain_of s.tables (room_in q))) (id_some s.running r run)

      send_full : no_room s q ≡ true → send_on (pack os s) q t ≡ ruled (going os (HoldWords (id_of s.running))) s x later
      unfolding pack effect send_by caller_waits
      send_full full = skipped _ _ _ (room_test q low ∙ ap not full)
          ∙ on_row c s x _ _ refl (λ e. chosen _ _ _ (owns_queue_test q r run ∙ and_r _ _ e)) (λ e. skipped _ _ _ (owns_queue_test q r run ∙ and_false _ _ full e) ∙ waits_same
          ∙ on_row c s x _ _ refl (λ f. chosen _ _ _ (and_r _ _ f)) (λ f. skipped _ _ _ (and_false _ _ full f)
          ∙ on_row c s x _ _ refl (λ g. chosen _ _ _ (and_r _ _ g)) (λ g. skipped _ _ _ (and_false _ _ full g)
          ∙ on_row c s x _ _ refl
          (λ k. chosen _ _ _ (sym ring_test ∙ and_r _ _ k) ∙ ap (answer_in (pack os s) 12) (sym (links_some s (room_in q) s.running r run)))
          (λ k. skipped _ _ _ (sym ring_test ∙ and_false _ _ full k)
          ∙ on_accept c s x (caller_waits (with_tables s holding) r (room_in q) t (links_of s.tables r (room_in q))) _ (called_some s s.running (send_by s q t m) r run ∙ chosen _ _ _ full) refl
          (send_blocked_lem full (and_false _ _ full f) (sym ring_test ∙ and_false _ _ full k))))))
        where
          c : Course
          c = going os (HoldWords (id_of s.running))

          ring_test : of_caller s.running (λ z. closes_ring s.tables z (room_in q)) ≡ closes_ring s.tables r (room_in q)
          ring_test = of_caller_lem s.running (λ z. closes_ring s.tables z (room_in q)) r run

      -- where the queue has room, no row refuses
      module _ (gap : no_room s q ≡ false) where
        passes : (c : Course) {p : Plan} → p ≡ ruled c s x [] → p ≡ ruled c s x later
        passes c e = on_row c s x _ _ refl (λ f. absurd (clash (and_l _ _ f) gap)) (λ f. on_row c s x _ _ refl (λ g. absurd (clash (and_l _ _ g) gap)) (λ g.
            on_row c s x _ _ refl (λ k. absurd (clash (and_l _ _ k) gap)) (λ k. on_row c s x _ _ refl (λ l. absurd (clash (and_l _ _ l) gap)) (λ l. e))))

        -- to the tail
        send_tail : best_waiter s.tables (message_in q) ≡ none
            → send_on (pack os s) q t ≡ ruled (going os (QueueWords (spot (ring_of os s.tables.queues q) (length (messages_of s.tables q))))) s x later
        unfolding delivered pack pack_tasks pack_mutexes pack_semaphores pack_with level_column effect send_by deliver awaited_kind awaited_object id_of
        send_tail best = chosen _ _ _ (room_test q low ∙ ap not gap) ∙ ap (delivered (pack os s) q) (best_pack os s (message_in q) ∙ ap id_of best)
            ∙ passes (going os (QueueWords (spot (ring_of os s.tables.queues q) (length (messages_of s.tables q)))))
            (ap (λ z. answer_moving (put_queues (pack os s) (used_set (pack os s).queues q (z + 1))) 0 0 (QueueWords (place_at (pack os s).queues q z))) (used_read s.tables os q)
            ∙ ap (λ z. answer_moving (put_queues (pack os s) (used_set (pack os s).queues q (length (messages_of s.tables q) + 1))) 0 0 (QueueWords z)) (place_packed s.tables I.facts os q (length (messages_of s.tables q)) low)
            ∙ on_accept (going os (QueueWords (spot (ring_of os s.tables.queues q) (length (messages_of s.tables q))))) s x (deliver s q m none) _
            (called_some s s.running (send_by s q t m) r run ∙ skipped _ _ _ gap ∙ ap (deliver s q m) best) refl
            (ap (λ z. put_queues (pack os s) (used_set (pack os s).queues q z)) grown ∙ ap (put_queues (pack os s)) (used_set_lem s.tables I.facts os q more low)
            ∙ quiet_pack os s I (set_messages s.tables q more) s.clock s.hold (sent_facts s.tables I.facts q low m wide gap best) refl refl
            (level_same s.tables (set_messages s.tables q more) (lends_messages s.tables q more) refl) (λ z. z)))
          where
            more : List (List ℕ)
            more = messages_of s.tables q ++ (m ∷ [])

            grown : length (messages_of s.tables q) + 1 ≡ length more
            grown = omega (arith, length_snoc (messages_of s.tables q) m)

        -- to a waiting receiver
        module _ (w : ℕ) (best : best_waiter s.tables (message_in q) ≡ some w) where
          abbrev handed : Tables
          handed = hands (end_waits s.tables (eqb w) (λ i. granted)) w m

          handed_woke : woke (pack os s) (single w) granted granted ≡ pack_with os (level_column s.tables) (with_tables s handed)
          unfolding pack pack_with pack_tasks pack_mutexes pack_semaphores
          handed_woke = woke_pack os s I.facts (eqb w) (best_named os s I (message_in q) w best) (single w) (single_flags w (best_below os s I (message_in q) w best)) (λ i. granted) granted granted
              (λ i e. by_test (λ (z : ℕ). z ≡ granted) (eqb (kind_code (wait_of s.tables i)) on_time) (λ f. refl) (λ f. refl))

          handed_finish : dispatched (entered (woke (pack os s) (single w) granted granted) w) ≡ pack os (dispatch (settle (level_of s) (with_tables s handed) (ended s.tables (eqb w))))
          unfolding heir_awaited
          handed_finish = one_finish os s I (with_tables s handed) (ended s.tables (eqb w)) (handed_facts s.tables I.facts q low m wide w best)
              (places_end s handed (eqb w) refl refl I.places) _
              (handed_woke ∙ unchanged_pack os s (with_tables s handed) refl I.ascending (λ k h. level_same s.tables handed (λ i. lends_hands (end_waits s.tables (eqb w) (λ j. granted)) w m i ∙ lends_end s.tables (eqb w) (λ j. granted)
              (λ j e. ap (lends s.tables) (sym (eqb-true w j e)) ∙ awaits_lends s.tables (message_in q) w (best_waits s.tables I.facts (message_in q) w best)) i) refl k))
              w (best_ended os s I (message_in q) w best)

          send_handed : send_on (pack os s) q t ≡ ruled (going os (HoldWords w)) s x later
          unfolding delivered effect send_by deliver awaited_kind awaited_object id_of
          send_handed = chosen _ _ _ (room_test q low ∙ ap not gap) ∙ ap (delivered (pack os s) q) (best_pack os s (message_in q) ∙ ap id_of best)
              ∙ skipped _ _ _ (ne_eqb w no_id (λ e. omega (arith, best_below os s I (message_in q) w best)))
              ∙ passes (going os (HoldWords w)) (on_accept (going os (HoldWords w)) s x (deliver s q m (some w)) _
              (called_some s s.running (send_by s q t m) r run ∙ skipped _ _ _ gap ∙ ap (deliver s q m) best) refl handed_finish)

    -- a send to a full queue, one to the tail, and one to a waiting receiver
    pub full_pack : no_room s q ≡ true → send_step (pack os s) q t (length m) ≡ ruled (going os (HoldWords (id_of s.running))) s x (refusals s x)
    full_pack full = send_rows os _ (λ r run low valid wide. send_full r run low valid wide full)

    pub tail_pack : no_room s q ≡ false → best_waiter s.tables (message_in q) ≡ none
        → send_step (pack os s) q t (length m) ≡ ruled (going os (QueueWords (spot (ring_of os s.tables.queues q) (length (messages_of s.tables q))))) s x (refusals s x)
    tail_pack gap best = send_rows os _ (λ r run low valid wide. send_tail r run low valid wide gap best)

    pub handed_pack : no_room s q ≡ false → (w : ℕ) → best_waiter s.tables (message_in q) ≡ some w → send_step (pack os s) q t (length m) ≡ ruled (going os (HoldWords w)) s x (refusals s x)
    handed_pack gap w best = send_rows os _ (λ r run low valid wide. send_handed r run low valid wide gap w best)
