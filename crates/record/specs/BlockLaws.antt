-- What a step may change in the lent block: the words of one message place of its own queue, and no other.
use Rattle.std.specs.Prelude.{◌≡◌, ℕ, ◌<◌, ◌≤◌, List, [], ◌∷◌, length, slice_index}
use Rattle.std.proofs.Math.Path.{refl, ap, sym}
use Rattle.std.proofs.Common.{◌∙◌, subst, arith, leb-false, eqb-true, ne_eqb}
use Rattle.std.proofs.Math.Option.{Option, none, some}
use Rattle.std.proofs.lemmas.Bool.{not-false}
use Rattle.lists.specs.TestLaws.{by_test, or_none}
use Rattle.rules.specs.Tables.{room_in, message_in, queue_count, width_of, depth_of, messages_of}
use Rattle.rules.specs.Levels.{best_waiter}
use Rattle.rules.specs.Step.{Step, task, mutex, sem, start, lock, unlock, pend, post, flush, sleep, yield, hold, free, tick, level, outcome, queue, send, receive, word}
use Rattle.rules.specs.Effect.{Effect, caller_waits, deliver, send_by, sent_by, take_in, receive_by, effect}
use Rattle.rules.specs.Refusal.{Row, no_room, refusals, first_row}
use Rattle.rules.specs.Invariant.{Inv}
use Rattle.rules.proofs.MessageLaws.{sent_wide}
use Rattle.rules.proofs.StepLaws.{passed, called_by_lem, caller_in, caller_idle}
use Rattle.rules.proofs.RefusalLaws.{refused_number, refused_above}
use Rattle.rings.specs.Words.{laid, Off}
use Rattle.rings.proofs.WordsLaws.{laid_word}
use Rattle.rings.specs.Ring.{spot}
use Rattle.rings.proofs.RingLaws.{spot_in}
use Rattle.record.specs.Record.{ring_at, view_tables, view, pack_queues, pack, oldest_in}
use Rattle.record.specs.Whole.{Whole}
use Rattle.record.specs.Layout.{ring_of, Stands, packed}
use Rattle.record.specs.SoundRecord.{sound_of}
use Rattle.record.specs.GoodRecord.{Typed}
use Rattle.record.specs.StepRecord.{After, after_for, block_sent, block_taken, block_for, stays, step_by}
use Rattle.record.specs.ReadLaws.{width_read, used_read}
use Rattle.record.specs.SoundPackLaws.{sound_view}
use Rattle.record.specs.StandsLaws.{sits}
use Rattle.record.specs.StepStandsLaws.{view_back, spot_back, refused_same}
use Rattle.record.specs.DemandRecordLaws.{whole_pack, view_stands}
use Rattle.rules.specs.State.{State as Model}  -- keep
use Rattle.rules.specs.Answer.{is_formed, decide, step_sound}  -- keep

-- word i lies outside the message place that a step fills: the tail of the queue for a send, the place of the oldest message for a receive; any other
-- step fills none
unfoldable pub Outside : Whole → Step → ℕ → Type 0
Outside h (send q t m) i = Off i 1 (spot (ring_at h.state.queues q) (slice_index h.state.queues.used q)) (length m)
Outside h (receive q t) i = Off i 1 (spot (ring_at h.state.queues q) 0) (slice_index h.state.queues.width q)
Outside h (task p) i = Unit {0}
Outside h (mutex k) i = Unit {0}
Outside h (sem count max) i = Unit {0}
Outside h start i = Unit {0}
Outside h (lock m t) i = Unit {0}
Outside h (unlock m) i = Unit {0}
Outside h (pend k t) i = Unit {0}
Outside h (post k) i = Unit {0}
Outside h (flush k) i = Unit {0}
Outside h (sleep t) i = Unit {0}
Outside h yield i = Unit {0}
Outside h hold i = Unit {0}
Outside h free i = Unit {0}
Outside h tick i = Unit {0}
Outside h (level n) i = Unit {0}
Outside h (outcome n) i = Unit {0}
Outside h (queue w d o) i = Unit {0}
Outside h (word n j) i = Unit {0}

module _ (s : Model) (I : Inv s) (os b : List ℕ) (S : Stands os b s.tables.queues) (i : ℕ) where
  -- words laid at a place of a queue's ring
  laid_outside : (q k : ℕ) (m : List ℕ) (at : ℕ) → q < queue_count s.tables → k ≤ depth_of s.tables q → length m ≡ width_of s.tables q → at ≡ spot (ring_of os s.tables.queues q) k
      → Off i 1 at (length m) → slice_index (laid b at m) i ≡ slice_index b i
  laid_outside q k m at low in_ring wide e off =
      laid_word b at m (omega (arith, (sits s.tables I.facts os b S q low).within, spot_in (length b) (ring_of os s.tables.queues q) (sits s.tables I.facts os b S q low) k in_ring)) i off

  sent_outside : (q : ℕ) (m : List ℕ) (o : Option ℕ) → q < queue_count s.tables → length m ≡ width_of s.tables q → best_waiter s.tables (message_in q) ≡ o
      → Off i 1 (spot (ring_at (pack_queues os s.tables.queues) q) (slice_index (pack_queues os s.tables.queues).used q)) (length m)
      → slice_index (block_sent (packed os b s) q m (best_waiter (view_tables (packed os b s)) (message_in q))) i ≡ slice_index b i
  unfolding block_sent pack
  sent_outside q m none low wide best off = rw (view_back s I os b S, best)
      (laid_outside q (length (messages_of s.tables q)) m _ low (I.facts.queues q low).room wide (spot_back s I os b S q _ (length (messages_of s.tables q)) (used_read s.tables os q)) off)
  sent_outside q m (some w) low wide best off = rw (view_back s I os b S, best) refl

  took_outside : (q : ℕ) (m : List ℕ) (ms : List (List ℕ)) (o : Option ℕ) → q < queue_count s.tables → messages_of s.tables q ≡ m ∷ ms → (r : ℕ) → s.running ≡ some r → best_waiter s.tables (room_in q) ≡ o
      → Off i 1 (spot (ring_at (pack_queues os s.tables.queues) q) 0) (slice_index (pack_queues os s.tables.queues).width q)
      → slice_index (block_taken (packed os b s) q (best_waiter (view_tables (packed os b s)) (room_in q))) i ≡ slice_index b i
  unfolding block_taken pack
  took_outside q m ms none low e r run best off = rw (view_back s I os b S, best) refl
  took_outside q m ms (some w) low e r run best off =
      let wide = sent_wide s.tables I.facts q low m ms e r (caller_in s I r run) (caller_idle s I r run) w best in
      rw (view_back s I os b S, best, view_back s I os b S)
      (laid_outside q 0 (sent_by s.tables q w) _ low (omega arith) wide (spot_back s I os b S q 0 0 refl) (subst (Off i 1 _) (width_read s.tables os q ∙ sym wide) off))

  -- what an accepted step leaves of word i
  abbrev Same : Step → Effect → Type 0
  Same y E = slice_index (block_for (packed os b s) y E.number) i ≡ slice_index b i

  accepted_outside : (y : Step) → first_row (refusals s y) ≡ none → Outside (packed os b s) y i → Same y (effect s y)
  unfolding effect refusals block_for Outside caller_waits deliver send_by take_in receive_by pack
  accepted_outside (send q t m) e off =
      let b₂ = passed _ _ (passed _ _ e).1 in
      let c = passed _ _ b₂.1 in
      let n = or_none _ _ (passed _ _ c.1).0 in
      called_by_lem (Same (send q t m)) s s.running (send_by s q t m) b₂.0 (λ r run. by_test (Same (send q t m)) (no_room s q) (λ f. refl)
      (λ f. go (leb-false (queue_count s.tables) q c.0) (eqb-true (length m) (width_of s.tables q) (not-false _ n.1)) (best_waiter s.tables (message_in q)) refl))
    where
      go : q < queue_count s.tables → length m ≡ width_of s.tables q → (o : Option ℕ) → best_waiter s.tables (message_in q) ≡ o → Same (send q t m) (deliver s q m o)
      go low wide none best = sent_outside q m none low wide best off
      go low wide (some w) best = sent_outside q m (some w) low wide best off
  accepted_outside (receive q t) e off =
      let b₂ = passed _ _ (passed _ _ e).1 in
      let c = passed _ _ b₂.1 in
      called_by_lem (Same (receive q t)) s s.running (λ r. receive_by s q t r (messages_of s.tables q)) b₂.0 (λ r run. go r run (leb-false (queue_count s.tables) q c.0) (messages_of s.tables q) refl)
    where
      go : (r : ℕ) → s.running ≡ some r → q < queue_count s.tables → (ms : List (List ℕ)) → messages_of s.tables q ≡ ms → Same (receive q t) (receive_by s q t r ms)
      go r run low [] f = refl
      go r run low (m ∷ ms) f = taken (best_waiter s.tables (room_in q)) refl
        where
          taken : (o : Option ℕ) → best_waiter s.tables (room_in q) ≡ o → Same (receive q t) (take_in s q r m ms o)
          taken none best = took_outside q m ms none low f r run best off
          taken (some w) best = took_outside q m ms (some w) low f r run best off
  accepted_outside (task p) e off = refl
  accepted_outside (mutex k) e off = refl
  accepted_outside (sem count max) e off = refl
  accepted_outside start e off = refl
  accepted_outside (lock m t) e off = refl
  accepted_outside (unlock m) e off = refl
  accepted_outside (pend k t) e off = refl
  accepted_outside (post k) e off = refl
  accepted_outside (flush k) e off = refl
  accepted_outside (sleep t) e off = refl
  accepted_outside yield e off = refl
  accepted_outside hold e off = refl
  accepted_outside free e off = refl
  accepted_outside tick e off = refl
  accepted_outside (level n) e off = refl
  accepted_outside (outcome n) e off = refl
  accepted_outside (queue w d o) e off = refl
  accepted_outside (word n j) e off = refl

  -- so any step on a sound state
  sound_outside : (y : Step) → Outside (packed os b s) y i → slice_index (block_for (packed os b s) y (step_sound s y).number) i ≡ slice_index b i
  unfolding step_sound decide
  sound_outside y off = go (first_row (refusals s y)) refl
    where
      go : (o : Option Row) → first_row (refusals s y) ≡ o → slice_index (block_for (packed os b s) y (decide s y o).number) i ≡ slice_index b i
      go none e = accepted_outside y e off
      go (some r) e = ap (λ c. slice_index c i) (refused_same s I os b S y r.number (ne_eqb r.number 0 (λ z. omega (arith, refused_above r.number (refused_number s y r e))))).1

-- document 02, K1: "In the block, nothing outside the queue's own words changes.": outside the one message place that the step fills no word changes,
-- whatever record, words and block are handed in
pub block_outside : (h : Whole) (x : Step) (i : ℕ) → Typed h.state → Outside h x i → slice_index (step_by h x).whole.block i ≡ slice_index h.block i
unfolding step_by stays after_for
block_outside h x i T off = by_test (λ (A : After). slice_index A.whole.block i ≡ slice_index h.block i) (is_formed x)
    (λ f. by_test (λ (A : After). slice_index A.whole.block i ≡ slice_index h.block i) (sound_of h)
    (λ e. subst (λ (z : Whole). Outside z x i → slice_index (block_for z x (step_sound (view h) x).number) i ≡ slice_index z.block i) (whole_pack h T e)
    (sound_outside (view h) (sound_view h e) (oldest_in h.state.queues) h.block (view_stands h T e) i x) off) (λ e. refl)) (λ f. refl)
