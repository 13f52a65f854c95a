-- Every step of the machine on a sound record, once its words are moved, is what the step is defined to give.
use Rattle.std.specs.Prelude.{◌≡◌, true, ℕ, ◌<◌, length}
use Rattle.std.proofs.Math.Path.{refl}
use Rattle.std.proofs.Common.{sym, ◌∙◌, subst, leb-false, eqb-true}
use mathlib.Core.List.{List, [], ◌∷◌}
use Rattle.std.proofs.Math.Bool.{false}
use Rattle.std.proofs.Math.Logic.{inl, inr}
use Rattle.std.proofs.Math.Option.{Option, none, some}
use Rattle.std.proofs.lemmas.Bool.{not-false}
use Rattle.lists.specs.Test.{someb}
use Rattle.lists.specs.TestLaws.{which, or_none, some_true}
use Rattle.rules.specs.Sizes.{max_tasks}
use Rattle.rules.specs.Tables.{room_in, message_in, task_count, queue_count, width_of, messages_of}
use Rattle.rules.specs.Levels.{best_waiter}
use Rattle.rules.specs.Step.{task, mutex, sem, start, lock, unlock, pend, post, flush, sleep, yield, hold, free, tick, level, outcome, queue, send, receive, word}
use Rattle.rules.specs.Effect.{effect}
use Rattle.rules.specs.Refusal.{no_room, refusals, first_row}
use Rattle.rules.specs.Invariant.{Inv}
use Rattle.rules.proofs.StepLaws.{passed}
use Rattle.record.specs.Record.{view, pack, pack_words, oldest_in}
use Rattle.record.specs.Whole.{Whole}
use Rattle.record.specs.Layout.{Stands, packed}
use Rattle.record.specs.SoundRecord.{sound_of}
use Rattle.record.specs.StepRecord.{step_for, oldest_for, block_for, After, after_for, step_of}
use Rattle.record.specs.GoodRecord.{Typed}
use Rattle.record.specs.SoundPackLaws.{sound_view}
use Rattle.record.specs.WordsPackLaws.{words_added}
use Rattle.record.specs.StepStandsLaws.{oldest_back}
use Rattle.record.specs.DemandRecordLaws.{whole_pack, view_stands, step_of_sound}
use Rattle.machine.specs.Machine.{machine_step}
use Rattle.machine.specs.Planned.{carried}
use Rattle.machine.proofs.PlainStepLaws.{level_step_pack, outcome_pack, hold_pack, free_pack, start_pack, yield_pack, mutex_pack, sem_pack, task_pack}
use Rattle.machine.proofs.WaitStepLaws.{sleep_pack, pend_pack, post_pack, flush_pack}
use Rattle.machine.proofs.LockStepLaws.{unlock_pack, lock_pack}
use Rattle.machine.proofs.TickStepLaws.{tick_pack}
use Rattle.machine.proofs.SendStepLaws.{full_pack, tail_pack, handed_pack}
use Rattle.machine.proofs.ReceiveStepLaws.{empty_pack, took_pack, swapped_pack}
use Rattle.machine.proofs.QueueSetUpLaws.{word_pack, queue_pack, owned_queue_pack}
use Rattle.machine.proofs.PerformLaws.{is_quiet, carried_ruled, carried_still, carried_quiet, queue_good, full_good, tail_good, handed_good, empty_good, took_good, swapped_good}
use Rattle.record.specs.declared.Request.{Request}  -- keep
use Rattle.record.specs.declared.Request.TheVariants.{Task, Mutex, Sem, Start, Lock, Unlock, Pend, Post, Flush, Sleep, Yield, Hold, Free, Tick, Level, Outcome, Queue, OwnedQueue, Send, Receive, Word}  -- keep
use Rattle.rules.specs.State.{State as Model}  -- keep
use Rattle.rules.specs.Answer.{is_formed, step_sound}  -- keep

module _ (s : Model) (I : Inv s) (os b : List ℕ) (S : Stands os b s.tables.queues) where
  -- the step of a request on the packed state, once its words are moved
  abbrev gives : Request → List ℕ → After
  gives x m = carried (packed os b s) m (machine_step (pack os s) x (length m) (length b) (pack_words s.tables))

  -- an accepted send: there is a caller, the queue exists, and the message is as wide as its messages are
  module _ (q t : ℕ) (m : List ℕ) where
    sent_by_lem : {A : Type 0} → first_row (refusals s (send q t m)) ≡ none
        → (q < queue_count s.tables → length m ≡ width_of s.tables q → (r : ℕ) → s.running ≡ some r → A) → A
    unfolding refusals
    sent_by_lem e f =
        let b₂ = passed _ _ (passed _ _ e).1 in
        let c = passed _ _ b₂.1 in
        let n = or_none _ _ (passed _ _ c.1).0 in
        let r = some_true s.running (not-false (someb s.running) b₂.0) in
        f (leb-false (queue_count s.tables) q c.0) (eqb-true (length m) (width_of s.tables q) (not-false _ n.1)) r.0 r.1

    send_carried : gives (Send q t) m ≡ after_for (packed os b s) (send q t m) (step_sound s (send q t m))
    unfolding machine_step
    send_carried = elim (which (no_room s q)) [
      | inl full ↦ carried_ruled s I os b S os _ (send q t m) m (full_pack os s I q t m full) (λ e. sent_by_lem e (λ low wide r run. full_good s I os b S q low t m wide r run full))
      | inr gap ↦ go gap (best_waiter s.tables (message_in q)) refl
    ]
      where
        go : no_room s q ≡ false → (o : Option ℕ) → best_waiter s.tables (message_in q) ≡ o → gives (Send q t) m ≡ after_for (packed os b s) (send q t m) (step_sound s (send q t m))
        go gap none best = carried_ruled s I os b S os _ (send q t m) m (tail_pack os s I q t m gap best) (λ e. sent_by_lem e (λ low wide r run. tail_good s I os b S q low t m wide r run gap best))
        go gap (some w) best = carried_ruled s I os b S os _ (send q t m) m (handed_pack os s I q t m gap w best) (λ e. sent_by_lem e (λ low wide r run. handed_good s I os b S q low t m wide r run gap w best))

  -- an accepted receive: there is a caller, and the queue exists
  module _ (q t : ℕ) (m : List ℕ) where
    received_by : {A : Type 0} → first_row (refusals s (receive q t)) ≡ none → (q < queue_count s.tables → (r : ℕ) → s.running ≡ some r → A) → A
    unfolding refusals
    received_by e f =
        let b₂ = passed _ _ (passed _ _ e).1 in
        let c = passed _ _ b₂.1 in
        let r = some_true s.running (not-false (someb s.running) b₂.0) in
        f (leb-false (queue_count s.tables) q c.0) r.0 r.1

    receive_carried : (l : List (List ℕ)) → messages_of s.tables q ≡ l → (o : Option ℕ) → best_waiter s.tables (room_in q) ≡ o
        → gives (Receive q t) m ≡ after_for (packed os b s) (receive q t) (step_sound s (receive q t))
    unfolding machine_step
    receive_carried [] e o best = carried_ruled s I os b S os _ (receive q t) m (empty_pack os s I q t e) (λ f. received_by f (λ low r run. empty_good s I os b S q low t m r run e))
    receive_carried (n ∷ ms) e none best = carried_ruled s I os b S _ _ (receive q t) m (took_pack os s I q t n ms e S.oldest_column (S.in_ring q) best)
        (λ f. received_by f (λ low r run. took_good s I os b S q low t m r run n ms e best))
    receive_carried (n ∷ ms) e (some w) best = carried_ruled s I os b S _ _ (receive q t) m (swapped_pack os s I q t n ms e S.oldest_column (S.in_ring q) w best)
        (λ f. received_by f (λ low r run. swapped_good s I os b S q low t m r run n ms e w best))

  added : (p : ℕ) → first_row (refusals s (task p)) ≡ none → pack_words (effect s (task p)).state.tables ≡ pack_words s.tables
  unfolding refusals effect
  added p e = words_added s.tables I.facts p (leb-false max_tasks (task_count s.tables) (passed _ _ (passed _ _ (passed _ _ e).1).1).0)

  step_carried : (x : Request) (m : List ℕ) → gives x m ≡ after_for (packed os b s) (step_for x m) (step_sound s (step_for x m))
  unfolding machine_step step_for oldest_for block_for is_quiet
  step_carried (Task p) m = carried_still s I os b S (task p) m (λ n. (oldest_back s I os b S, refl)) (added p) (task_pack os s I p)
  step_carried (Mutex q) m = carried_quiet s I os b S (mutex q) m refl (λ n. (oldest_back s I os b S, refl)) (mutex_pack os s I q)
  step_carried (Sem n max) m = carried_quiet s I os b S (sem n max) m refl (λ n. (oldest_back s I os b S, refl)) (sem_pack os s I n max)
  step_carried Start m = carried_quiet s I os b S start m refl (λ n. (oldest_back s I os b S, refl)) (start_pack os s I)
  step_carried (Lock j t) m = carried_quiet s I os b S (lock j t) m refl (λ n. (oldest_back s I os b S, refl)) (lock_pack os s I j t)
  step_carried (Unlock j) m = carried_quiet s I os b S (unlock j) m refl (λ n. (oldest_back s I os b S, refl)) (unlock_pack os s I j)
  step_carried (Pend k t) m = carried_quiet s I os b S (pend k t) m refl (λ n. (oldest_back s I os b S, refl)) (pend_pack os s I k t)
  step_carried (Post k) m = carried_quiet s I os b S (post k) m refl (λ n. (oldest_back s I os b S, refl)) (post_pack os s I k)
  step_carried (Flush k) m = carried_quiet s I os b S (flush k) m refl (λ n. (oldest_back s I os b S, refl)) (flush_pack os s I k)
  step_carried (Sleep t) m = carried_quiet s I os b S (sleep t) m refl (λ n. (oldest_back s I os b S, refl)) (sleep_pack os s I t)
  step_carried Yield m = carried_quiet s I os b S yield m refl (λ n. (oldest_back s I os b S, refl)) (yield_pack os s I)
  step_carried Hold m = carried_quiet s I os b S hold m refl (λ n. (oldest_back s I os b S, refl)) (hold_pack os s I)
  step_carried Free m = carried_quiet s I os b S free m refl (λ n. (oldest_back s I os b S, refl)) (free_pack os s I)
  step_carried Tick m = carried_quiet s I os b S tick m refl (λ n. (oldest_back s I os b S, refl)) (tick_pack os s I)
  step_carried (Level i) m = carried_quiet s I os b S (level i) m refl (λ n. (oldest_back s I os b S, refl)) (level_step_pack os s I i)
  step_carried (Outcome i) m = carried_quiet s I os b S (outcome i) m refl (λ n. (oldest_back s I os b S, refl)) (outcome_pack os s I i)
  step_carried (Queue w d) m = carried_ruled s I os b S _ _ (queue w d none) m (queue_pack os s I S.oldest_column (length b) S.space w d) (λ e. queue_good s I os b S w d none m)
  step_carried (OwnedQueue w d o) m = carried_ruled s I os b S _ _ (queue w d (some o)) m (owned_queue_pack os s I S.oldest_column (length b) S.space w d o) (λ e. queue_good s I os b S w d (some o) m)
  step_carried (Send q t) m = send_carried q t m
  step_carried (Receive q t) m = receive_carried q t m (messages_of s.tables q) refl (best_waiter s.tables (room_in q)) refl
  step_carried (Word i j) m = carried_quiet s I os b S (word i j) m refl (λ n. (oldest_back s I os b S, refl)) (word_pack os s I i j)

-- so on every sound record the machine, once its words are moved, gives what `step` is defined to give
pub sound_step : (h : Whole) → Typed h.state → sound_of h ≡ true → (x : Request) (m : List ℕ) → is_formed (step_for x m) ≡ true
    → carried h m (machine_step h.state x (length m) (length h.block) h.words) ≡ step_of h x m
sound_step h T sound x m formed = subst (λ z. carried z m (machine_step z.state x (length m) (length z.block) z.words) ≡ after_for z (step_for x m) (step_sound (view h) (step_for x m))) (whole_pack h T sound)
    (step_carried (view h) (sound_view h sound) (oldest_in h.state.queues) h.block (view_stands h T sound) x m) ∙ sym (step_of_sound h T sound (step_for x m) formed)
