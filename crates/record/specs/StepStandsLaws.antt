-- After every step the block holds the messages of the state: where it held those of the state before.
use Rattle.std.specs.Prelude.{◌≡◌, ℕ, ◌<◌, false, List, [], ◌∷◌, length, ◌==◌, slice_index, slice_set}
use Rattle.std.proofs.Math.Path.{refl}
use Rattle.std.proofs.Common.{ap, sym, ◌∙◌, subst, arith}
use Rattle.std.proofs.Math.Option.{Option, none, some}
use borrow.Author.Tests.{leb-false, eqb-true, eqb-false, not-false, ne_eqb}
use Rattle.lists.specs.Test.{◌and◌}
use Rattle.lists.specs.TestLaws.{by_test, and_r, or_none}
use Rattle.lists.specs.TableLaws.{take_pad}
use Rattle.rules.specs.Sizes.{max_queues}
use Rattle.rules.specs.Tables.{QueueTable, Tables, room_in, message_in, queue_count, owner_of, width_of, depth_of, messages_of}
use Rattle.rules.specs.Levels.{best_waiter}
use Rattle.rules.specs.Step.{Step, task, mutex, sem, start, lock, unlock, pend, post, flush, sleep, yield, hold, free, tick, level, outcome, queue, send, receive, word}
use Rattle.rules.specs.Tables.{mutex_of, sem_of}
use Rattle.rules.specs.Effect.{Effect, caller_waits, lock_by, pass_on, pend_by, credit, flush_of, deliver, send_by, sent_by, take_in, receive_by, tick_of, yield_by, effect}
use Rattle.rules.specs.Refusal.{Row, no_credit, no_room, refusals, first_row}
use Rattle.rules.specs.Sound.{is_width, is_depth}
use Rattle.rules.specs.Invariant.{Inv}
use Rattle.rules.proofs.SoundLaws.{depth_true}
use Rattle.rules.proofs.MessageLaws.{sender_full, sent_wide}
use Rattle.rules.proofs.StepLaws.{passed, called_by_lem, caller_in, caller_idle}
use Rattle.rules.proofs.RefusalLaws.{refused_number, refused_above, caller_by}
use Rattle.rules.proofs.OutcomeLaws.{finish_tables}
use Rattle.rings.specs.Ring.{slot_of, spot}
use Rattle.record.specs.Record.{ring_at, view_tables, pack_queues, pack, oldest_in}
use Rattle.record.specs.Whole.{Whole}
use Rattle.record.specs.Layout.{ring_of, Stands, packed}
use Rattle.record.specs.StepRecord.{oldest_for, block_sent, block_taken, block_for}
use Rattle.record.specs.ReadLaws.{depth_read, oldest_read, used_read}
use Rattle.record.specs.SoundPackLaws.{ring_pack, tables_pack}
use Rattle.record.specs.StandsLaws.{stands_put, stands_take, stands_swap, stands_add}
use Rattle.rules.specs.State.{State as Model}  -- keep
use Rattle.rules.specs.Answer.{decide, step_sound}  -- keep

module _ (s : Model) (I : Inv s) (os b : List ℕ) (S : Stands os b s.tables.queues) where
  abbrev t : Tables
  t = s.tables

  abbrev x : QueueTable
  x = s.tables.queues

  abbrev h : Whole
  h = packed os b s

  pub oldest_back : oldest_in (pack_queues os x) ≡ os
  unfolding pack_queues
  oldest_back = take_pad max_queues 0 (queue_count t) os S.oldest_column

  pub view_back : view_tables h ≡ t
  view_back = tables_pack s os b I.facts I.clock_in S

  -- queues that stay, and a block that stays
  kept : (y : QueueTable) → y ≡ x → Stands (oldest_in (pack_queues os x)) b y
  kept y e = subst (λ o. Stands o b y) (sym oldest_back) (subst (Stands os b) (sym e) S)

  -- a queue's ring in the record
  pub spot_back : (q k j : ℕ) → k ≡ j → spot (ring_at (pack_queues os x) q) k ≡ spot (ring_of os x q) j
  spot_back q k j e = ap (λ r. spot r k) (ring_pack os x q) ∙ ap (spot (ring_of os x q)) e

  pub turn_back : (q : ℕ) → slice_set (oldest_in (pack_queues os x)) q (slot_of (slice_index (pack_queues os x).oldest q) (slice_index (pack_queues os x).depth q) 1) ≡ slice_set os q (slot_of (slice_index os q) (depth_of t q) 1)
  turn_back q = rw (oldest_back, oldest_read t os q, depth_read t os q) refl

  module _ (q : ℕ) (low : q < queue_count t) where
    sent_stands : (m : List ℕ) (o : Option ℕ) → best_waiter t (message_in q) ≡ o → length m ≡ width_of t q → no_room s q ≡ false
        → Stands (oldest_in (pack_queues os x)) (block_sent h q m (best_waiter (view_tables h) (message_in q))) (deliver s q m o).state.tables.queues
    unfolding deliver block_sent pack
    sent_stands m none e wide gap = rw (view_back, e, oldest_back, spot_back q _ (length (messages_of t q)) (used_read t os q))
        (stands_put t I.facts os b S q low m wide (omega (arith, (I.facts.queues q low).room, eqb-false (length (messages_of t q)) (depth_of t q) gap)))
    sent_stands m (some w) e wide gap = rw (view_back, e) (kept x refl)

    took_stands : (m : List ℕ) (ms : List (List ℕ)) → messages_of t q ≡ m ∷ ms → (r : ℕ) → s.running ≡ some r → (o : Option ℕ) → best_waiter t (room_in q) ≡ o
        → Stands (slice_set (oldest_in (pack_queues os x)) q (slot_of (slice_index (pack_queues os x).oldest q) (slice_index (pack_queues os x).depth q) 1)) (block_taken h q (best_waiter (view_tables h) (room_in q))) (take_in s q r m ms o).state.tables.queues
    unfolding take_in block_taken pack
    took_stands m ms e r run none best = rw (view_back, best, turn_back q) (stands_take t I.facts os b S q low m ms e)
    took_stands m ms e r run (some w) best = rw (view_back, best, view_back, turn_back q, spot_back q 0 0 refl)
        (stands_swap t I.facts os b S q low m ms (sent_by t q w) e (sender_full t I.facts q low m ms e r (caller_in s I r run) (caller_idle s I r run) w best) (sent_wide t I.facts q low m ms e r (caller_in s I r run) (caller_idle s I r run) w best))

  -- what an accepted step leaves
  abbrev After : Step → Effect → Type 0
  After y E = Stands (oldest_for (pack_queues os x) y E.number) (block_for h y E.number) E.state.tables.queues

  accepted_stands : (y : Step) → first_row (refusals s y) ≡ none → After y (effect s y)
  unfolding effect refusals oldest_for block_for caller_waits lock_by pass_on pend_by credit flush_of deliver send_by take_in receive_by tick_of yield_by
  accepted_stands (task p) e = kept _ refl
  accepted_stands (mutex k) e = kept _ refl
  accepted_stands (sem count max) e = kept _ refl
  accepted_stands start e = kept _ refl
  accepted_stands (lock m t) e = caller_by (After (lock m t)) s s.running _ (kept _ refl) (λ r. go r (owner_of s.tables m))
    where
      go : (r : ℕ) (o : Option ℕ) → After (lock m t) (lock_by s m t r o)
      go r none = kept _ refl
      go r (some o) = kept _ refl
  accepted_stands (unlock m) e = go (best_waiter s.tables (mutex_of m))
    where
      go : (o : Option ℕ) → After (unlock m) (pass_on s m o)
      go none = kept _ refl
      go (some w) = kept _ refl
  accepted_stands (pend k t) e = caller_by (After (pend k t)) s s.running _ (kept _ refl) (λ r. by_test (After (pend k t)) (no_credit s k) (λ f. kept _ refl) (λ f. kept _ refl))
  accepted_stands (post k) e = go (best_waiter s.tables (sem_of k))
    where
      go : (o : Option ℕ) → After (post k) (credit s k o)
      go none = kept _ refl
      go (some w) = kept _ refl
  accepted_stands (flush k) e = kept _ refl
  accepted_stands (sleep t) e = caller_by (After (sleep t)) s s.running _ (kept _ refl) (λ r. kept _ refl)
  accepted_stands yield e = caller_by (After yield) s s.running _ (kept _ refl) (λ r. kept _ refl)
  accepted_stands hold e = kept _ refl
  accepted_stands free e = kept _ refl
  accepted_stands tick e = kept _ refl
  accepted_stands (level i) e = kept _ refl
  accepted_stands (outcome i) e = kept _ refl
  accepted_stands (queue w d p) e =
      let c = passed _ _ (passed _ _ (passed _ _ e).1).1 in
      let g = not-false (is_width w and is_depth d) c.0 in
      rw oldest_back (stands_add s.tables I.facts os b S w d p (depth_true d (and_r _ _ g)).0)
  accepted_stands (send q t m) e =
      let b₂ = passed _ _ (passed _ _ e).1 in
      let c = passed _ _ b₂.1 in
      let n = or_none _ _ (passed _ _ c.1).0 in
      called_by_lem (After (send q t m)) s s.running (send_by s q t m) b₂.0 (λ r run. by_test (After (send q t m)) (no_room s q) (λ f. kept _ refl)
      (λ f. delivered q t m (leb-false (queue_count s.tables) q c.0) (eqb-true (length m) (width_of s.tables q) (not-false _ n.1)) f (best_waiter s.tables (message_in q)) refl))
    where
      delivered : (q t : ℕ) (m : List ℕ) → q < queue_count s.tables → length m ≡ width_of s.tables q → no_room s q ≡ false → (o : Option ℕ) → best_waiter s.tables (message_in q) ≡ o → After (send q t m) (deliver s q m o)
      delivered q t m low wide gap none best = sent_stands q low m none best wide gap
      delivered q t m low wide gap (some w) best = sent_stands q low m (some w) best wide gap
  accepted_stands (receive q t) e =
      let b₂ = passed _ _ (passed _ _ e).1 in
      let c = passed _ _ b₂.1 in
      called_by_lem (After (receive q t)) s s.running (λ r. receive_by s q t r (messages_of s.tables q)) b₂.0 (λ r run. go r run (leb-false (queue_count s.tables) q c.0) (messages_of s.tables q) refl)
    where
      go : (r : ℕ) → s.running ≡ some r → q < queue_count s.tables → (ms : List (List ℕ)) → messages_of s.tables q ≡ ms → After (receive q t) (receive_by s q t r ms)
      go r run low [] f = kept _ refl
      go r run low (m ∷ ms) f = taken (best_waiter s.tables (room_in q)) refl
        where
          taken : (o : Option ℕ) → best_waiter s.tables (room_in q) ≡ o → After (receive q t) (take_in s q r m ms o)
          taken none best = took_stands q low m ms f r run none best
          taken (some w) best = took_stands q low m ms f r run (some w) best
  accepted_stands (word i n) e = kept _ refl

  -- a refused step moves nothing
  pub refused_same : (y : Step) (n : ℕ) → (n == 0) ≡ false → (oldest_for (pack_queues os x) y n ≡ os) × (block_for h y n ≡ b)
  unfolding oldest_for block_for
  refused_same (task p) n e = (oldest_back, refl)
  refused_same (mutex k) n e = (oldest_back, refl)
  refused_same (sem count max) n e = (oldest_back, refl)
  refused_same start n e = (oldest_back, refl)
  refused_same (lock m t) n e = (oldest_back, refl)
  refused_same (unlock m) n e = (oldest_back, refl)
  refused_same (pend k t) n e = (oldest_back, refl)
  refused_same (post k) n e = (oldest_back, refl)
  refused_same (flush k) n e = (oldest_back, refl)
  refused_same (sleep t) n e = (oldest_back, refl)
  refused_same yield n e = (oldest_back, refl)
  refused_same hold n e = (oldest_back, refl)
  refused_same free n e = (oldest_back, refl)
  refused_same tick n e = (oldest_back, refl)
  refused_same (level i) n e = (oldest_back, refl)
  refused_same (outcome i) n e = (oldest_back, refl)
  refused_same (queue w d p) n e = rw e (oldest_back, refl)
  refused_same (send q t m) n e = rw e (oldest_back, refl)
  refused_same (receive q t) n e = rw e (oldest_back, refl)
  refused_same (word i j) n e = (oldest_back, refl)

  -- so any step
  pub step_stands : (y : Step) → Stands (oldest_for (pack_queues os x) y (step_sound s y).number) (block_for h y (step_sound s y).number) (step_sound s y).state.tables.queues
  unfolding step_sound decide
  step_stands y = go (first_row (refusals s y)) refl
    where
      go : (o : Option Row) → first_row (refusals s y) ≡ o → Stands (oldest_for (pack_queues os x) y (decide s y o).number) (block_for h y (decide s y o).number) (decide s y o).state.tables.queues
      go none e = rw (finish_tables s (effect s y)) (accepted_stands y e)
      go (some r) e = let q = refused_same y r.number (ne_eqb r.number 0 (λ z. omega (arith, refused_above r.number (refused_number s y r e)))) in rw (q.0, q.1) S
