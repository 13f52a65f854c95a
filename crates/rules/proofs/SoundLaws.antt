-- The test of "Sound state" is true exactly where the invariant holds: first of each phrase, then of the tables, then of the state.
use Rattle.std.specs.Prelude.{◌≡◌, refl, Bool, false, cond, ℕ, zero, suc, ◌+◌, ◌≤◌, ◌<◌, ltb, leb}
use Rattle.std.proofs.Math.Path.{ap, sym}
use Rattle.std.proofs.Common.{◌∙◌}
use mathlib.Core.List.{List, [], ◌∷◌}
use Rattle.std.proofs.Math.Bool.{true, not}
use Rattle.std.proofs.Math.Logic.{inl, inr}
use Rattle.std.proofs.Math.Option.{Option, none, some}
use native.Mathlib.Omega.{arith}
use Rattle.std.proofs.Math.Decide.{dec_le, dec_lt}
use Rattle.std.proofs.Math.Dec.{eqb}
use Rattle.std.proofs.Math.ListN.{length, get_or, get_or-eq_default}
use borrow.Author.Tests.{ltb-true, leb-true, eqb-true, not-true, lt-ltb, le-leb, eq-eqb}
use Rattle.lists.specs.Test.{◌and◌, ◌or◌, someb}
use Rattle.lists.specs.Count.{occ, opt}
use Rattle.lists.specs.Order.{Asc}
use Rattle.lists.specs.TestLaws.{which, clash, by_test, and_l, and_r, true_and, or_true, or_l, or_r, all_true, true_all, none_some, some_same, some_true, some_false, true_some}
use Rattle.lists.specs.CountLaws.{occ_head, below_in, below_out}
use Rattle.lists.specs.OrderLaws.{asc_first, asc_true, true_asc, ties_true, true_ties, inside_true, true_inside}
use Rattle.chains.specs.Chain.{Chain, end, link, Ends, endsb}
use Rattle.chains.specs.ChainLaws.{chain_short, ends_true, true_ends}
use Rattle.rules.specs.Sizes.{max_depth, held_words, max_ticks, granted, pending, timed_out, flushed}
use Rattle.rules.specs.Tables.{Awaited, mutex_of, sem_of, room_in, message_in, time, is_sleep, Wait, Tables, task_count, mutex_count, sem_count, queue_count, outcome_of, wait_of, words_of, owner_of, count_of, width_of, depth_of, queue_owner_of, messages_of}
use Rattle.rules.specs.Levels.{next}
use Rattle.rules.specs.State.{State, level_of}
use Rattle.rules.specs.Sound.{columnsb, sizesb, rangesb, is_depth, messagesb, queueb, queuesb, wordsb, clockb, wait_count, waitingb, placesb, ascendingb, unavailableb, leftb, blockedb, timedb, waitersb, timesb, is_own, pastb, suitsb, queuedb, queue_waitsb, existsb, ownersb, no_ringb, countsb, outcomeb, outcomesb, none_in, runsb, holdb, urgent_top, urgentb, set_upb, tablesb, soundb}
use Rattle.rules.specs.Invariant.{Unavailable, Blocked, Suits, Queued, QueueFits, Left, Timed, Outcome, Facts, Places, SetUp, Started, Inv}
use Rattle.rules.proofs.LevelLaws.{wait_out, next_none, next_ended}

-- each phrase of the tables, read off from its test and put together again
unavailable_true : (t : Tables) (a : Awaited) → unavailableb t a ≡ true → Unavailable t a
unfolding unavailableb
unavailable_true t (mutex_of m) e = some_true (owner_of t m) e
unavailable_true t (sem_of k) e = (ltb-true k (sem_count t) (and_l _ _ e), eqb-true (count_of t k) 0 (and_r _ _ e))
unavailable_true t (room_in q) e = (ltb-true q (queue_count t) (and_l _ _ e), eqb-true (length (messages_of t q)) (depth_of t q) (and_r _ _ e))
unavailable_true t (message_in q) e = (ltb-true q (queue_count t) (and_l _ _ e), eqb-true (length (messages_of t q)) 0 (and_r _ _ e))
unavailable_true t time e = tt

true_unavailable : (t : Tables) (a : Awaited) → Unavailable t a → unavailableb t a ≡ true
unfolding unavailableb
true_unavailable t (mutex_of m) u = true_some (owner_of t m) u.0 u.1
true_unavailable t (sem_of k) u = true_and _ _ (lt-ltb k (sem_count t) u.0) (eq-eqb (count_of t k) 0 u.1)
true_unavailable t (room_in q) u = true_and _ _ (lt-ltb q (queue_count t) u.0) (eq-eqb (length (messages_of t q)) (depth_of t q) u.1)
true_unavailable t (message_in q) u = true_and _ _ (lt-ltb q (queue_count t) u.0) (eq-eqb (length (messages_of t q)) 0 u.1)
true_unavailable t time u = refl

blocked_true : (t : Tables) (o : Option Wait) → blockedb t o ≡ true → Blocked t o
unfolding blockedb
blocked_true t none e = tt
blocked_true t (some w) e = unavailable_true t w.on e

true_blocked : (t : Tables) (o : Option Wait) → Blocked t o → blockedb t o ≡ true
unfolding blockedb
true_blocked t none u = refl
true_blocked t (some w) u = true_unavailable t w.on u

-- words past w are 0, of a list of eight
pub past_true : (w : ℕ) (l : List ℕ) → length l ≤ held_words → pastb w l ≡ true → (n : ℕ) → w ≤ n → get_or l n 0 ≡ 0
unfolding pastb
past_true w l short e n h = elim (dec_lt n held_words) [
  | yes k ↦ elim (or_true _ _ (all_true held_words _ e n k)) [ inl u ↦ absurd (omega (arith, ltb-true n w u)) | inr u ↦ eqb-true _ _ u ]
  | no k ↦ get_or-eq_default l 0 (omega arith)
]

pub true_past : (w : ℕ) (l : List ℕ) → ((n : ℕ) → w ≤ n → get_or l n 0 ≡ 0) → pastb w l ≡ true
unfolding pastb
true_past w l h = true_all held_words _ (λ n k. elim (dec_lt n w) [ yes q ↦ or_l _ _ (lt-ltb n w q) | no q ↦ or_r _ _ (eq-eqb _ _ (h n (omega arith))) ])

own_true : (q : Option ℕ) (i : ℕ) → is_own q i ≡ true → (o : ℕ) → q ≡ some o → o ≡ i
unfolding is_own
own_true none i e o h = none_some refl h
own_true (some k) i e o h = sym (some_same h) ∙ eqb-true k i e

true_own : (q : Option ℕ) (i : ℕ) → ((o : ℕ) → q ≡ some o → o ≡ i) → is_own q i ≡ true
unfolding is_own
true_own none i h = refl
true_own (some k) i h = eq-eqb k i (h k refl)

suits_true : (t : Tables) (i : ℕ) (a : Awaited) → length (words_of t i) ≤ held_words → suitsb t i a ≡ true → Suits t i a
unfolding suitsb
suits_true t i (mutex_of m) h e = tt
suits_true t i (sem_of k) h e = tt
suits_true t i (room_in q) h e = past_true (width_of t q) (words_of t i) h e
suits_true t i (message_in q) h e = own_true (queue_owner_of t q) i e
suits_true t i time h e = tt

true_suits : (t : Tables) (i : ℕ) (a : Awaited) → Suits t i a → suitsb t i a ≡ true
unfolding suitsb
true_suits t i (mutex_of m) u = refl
true_suits t i (sem_of k) u = refl
true_suits t i (room_in q) u = true_past (width_of t q) (words_of t i) u
true_suits t i (message_in q) u = true_own (queue_owner_of t q) i u
true_suits t i time u = refl

queued_true : (t : Tables) (i : ℕ) (o : Option Wait) → length (words_of t i) ≤ held_words → queuedb t i o ≡ true → Queued t i o
unfolding queuedb
queued_true t i none h e = tt
queued_true t i (some w) h e = suits_true t i w.on h e

true_queued : (t : Tables) (i : ℕ) (o : Option Wait) → Queued t i o → queuedb t i o ≡ true
unfolding queuedb
true_queued t i none u = refl
true_queued t i (some w) u = true_suits t i w.on u

pub depth_true : (d : ℕ) → is_depth d ≡ true → (1 ≤ d) × (d ≤ max_depth)
unfolding is_depth
depth_true d e = (ltb-true 0 d (and_l _ _ e), leb-true d max_depth (and_r _ _ e))

fits_true : (t : Tables) (q : ℕ) → queueb t q ≡ true → QueueFits (width_of t q) (depth_of t q) (messages_of t q)
unfolding queueb messagesb
fits_true t q e = record {
  width_in = and_l _ _ e;
  depth_above = (depth_true (depth_of t q) (and_l _ _ (and_r _ _ e))).0;
  depth_in = (depth_true (depth_of t q) (and_l _ _ (and_r _ _ e))).1;
  room = leb-true _ _ (and_l _ _ (and_r _ _ (and_r _ _ e)));
  wide = λ k h. eqb-true _ _ (all_true (length (messages_of t q)) _ (and_r _ _ (and_r _ _ (and_r _ _ e))) k h);
}

true_fits : (t : Tables) (q : ℕ) → QueueFits (width_of t q) (depth_of t q) (messages_of t q) → queueb t q ≡ true
unfolding queueb messagesb is_depth
true_fits t q Q = true_and _ _ Q.width_in (true_and _ _ (true_and _ _ (lt-ltb _ _ Q.depth_above) (le-leb _ _ Q.depth_in))
    (true_and _ _ (le-leb _ _ Q.room) (true_all (length (messages_of t q)) _ (λ k h. eq-eqb _ _ (Q.wide k h)))))

ticks_true : (n : ℕ) → ltb 0 n and leb n max_ticks ≡ true → (1 ≤ n) × (n ≤ max_ticks)
ticks_true n e = (ltb-true 0 n (and_l _ _ e), leb-true n max_ticks (and_r _ _ e))

true_ticks : (n : ℕ) → (1 ≤ n) × (n ≤ max_ticks) → ltb 0 n and leb n max_ticks ≡ true
true_ticks n u = true_and _ _ (lt-ltb 0 n u.0) (le-leb n max_ticks u.1)

left_true : (a : Awaited) (o : Option ℕ) → leftb a o ≡ true → Left a o
unfolding leftb
left_true a none e = not-true (is_sleep a) e
left_true a (some n) e = ticks_true n e

true_left : (a : Awaited) (o : Option ℕ) → Left a o → leftb a o ≡ true
unfolding leftb
true_left a none u = rw u refl
true_left a (some n) u = true_ticks n u

timed_true : (o : Option Wait) → timedb o ≡ true → Timed o
unfolding timedb
timed_true none e = tt
timed_true (some w) e = left_true w.on w.left e

true_timed : (o : Option Wait) → Timed o → timedb o ≡ true
unfolding timedb
true_timed none u = refl
true_timed (some w) u = true_left w.on w.left u

pub exists_true : (n : ℕ) (q : Option ℕ) → existsb n q ≡ true → (o : ℕ) → q ≡ some o → o < n
unfolding existsb
exists_true n none e o h = none_some refl h
exists_true n (some k) e o h = omega (arith, ltb-true k n e, some_same h)

true_exists : (n : ℕ) (q : Option ℕ) → ((o : ℕ) → q ≡ some o → o < n) → existsb n q ≡ true
unfolding existsb
true_exists n none h = refl
true_exists n (some k) h = lt-ltb k n (h k refl)

outcome_true : (o : Option Wait) (n : ℕ) → outcomeb o n ≡ true → Outcome o n
unfolding outcomeb
outcome_true none n e = elim (or_true (eqb n granted) _ e) [
  | inl u ↦ inl (eqb-true n granted u)
  | inr u ↦ inr (elim (or_true (eqb n timed_out) _ u) [ inl v ↦ inl (eqb-true n timed_out v) | inr v ↦ inr (eqb-true n flushed v) ])
]
outcome_true (some w) n e = eqb-true n pending e

true_outcome : (o : Option Wait) (n : ℕ) → Outcome o n → outcomeb o n ≡ true
unfolding outcomeb
true_outcome none n u = elim u [
  | inl v ↦ or_l _ _ (eq-eqb n granted v)
  | inr v ↦ or_r _ _ (elim v [ inl w ↦ or_l _ _ (eq-eqb n timed_out w) | inr w ↦ or_r _ _ (eq-eqb n flushed w) ])
]
true_outcome (some w) n u = eq-eqb n pending u

-- the test of the tables
module _ (t : Tables) where
  -- owners exist
  pub owner_there : ownersb t ≡ true → (m o : ℕ) → owner_of t m ≡ some o → o < task_count t
  unfolding ownersb
  owner_there owners m o q = elim (dec_lt m (mutex_count t)) [
    | yes h ↦ exists_true (task_count t) (owner_of t m) (all_true (mutex_count t) _ (and_l _ _ owners) m h) o q
    | no h ↦ none_some (get_or-eq_default t.mutexes.owners none (omega arith)) q
  ]

  pub queue_owner_there : ownersb t ≡ true → (j o : ℕ) → queue_owner_of t j ≡ some o → o < task_count t
  unfolding ownersb
  queue_owner_there owners j o q = elim (dec_lt j (queue_count t)) [
    | yes h ↦ exists_true (task_count t) (queue_owner_of t j) (all_true (queue_count t) _ (and_r _ _ owners) j h) o q
    | no h ↦ none_some (get_or-eq_default t.queues.owners none (omega arith)) q
  ]

  facts_of : columnsb t ≡ true → sizesb t ≡ true → rangesb t ≡ true → waitingb t ≡ true → waitersb t ≡ true → timesb t ≡ true → ownersb t ≡ true
      → no_ringb t ≡ true → countsb t ≡ true → outcomesb t ≡ true → queuesb t ≡ true → wordsb t ≡ true → queue_waitsb t ≡ true → Facts t
  unfolding columnsb sizesb rangesb waitingb wait_count waitersb timesb no_ringb countsb outcomesb queuesb wordsb queue_waitsb
  facts_of columns sizes ranges waiting waiters times owners rings counts outcomes queues words queued = record {
    wait_column = column;
    outcome_column = eqb-true _ _ (and_l _ _ (and_r _ _ columns));
    kind_column = eqb-true _ _ (and_l _ _ (and_r _ _ (and_r _ _ columns)));
    maximum_column = eqb-true _ _ (and_l _ _ (and_r _ _ (and_r _ _ (and_r _ _ columns))));
    word_column = eqb-true _ _ (and_l _ _ behind);
    width_column = eqb-true _ _ (and_l _ _ (and_r _ _ behind));
    depth_column = eqb-true _ _ (and_l _ _ (and_r _ _ (and_r _ _ behind)));
    message_column = eqb-true _ _ (and_r _ _ (and_r _ _ (and_r _ _ behind)));
    few_tasks = leb-true _ _ (and_l _ _ sizes);
    few_mutexes = leb-true _ _ (and_l _ _ (and_r _ _ sizes));
    few_semaphores = leb-true _ _ (and_l _ _ (and_r _ _ (and_r _ _ sizes)));
    few_queues = leb-true _ _ (and_r _ _ (and_r _ _ (and_r _ _ sizes)));
    priorities = λ i h. ltb-true _ _ (all_true (task_count t) _ (and_l _ _ ranges) i h);
    kinds_in = λ m h. ltb-true _ _ (all_true (mutex_count t) _ (and_r _ _ ranges) m h);
    waiting = λ i. elim (dec_lt i (task_count t)) [
      | yes h ↦ eqb-true _ _ (all_true (task_count t) _ (and_r _ _ waiting) i h)
      | no h ↦ inside_true (task_count t) t.tasks.waiting (and_l _ _ waiting) i (omega arith) ∙ sym (ap wait_count (out i (omega arith)))
    ];
    blocked = λ i. elim (dec_lt i (task_count t)) [
      | yes h ↦ blocked_true t (wait_of t i) (all_true (task_count t) _ waiters i h)
      | no h ↦ rw (out i (omega arith)) tt
    ];
    timed = λ i. elim (dec_lt i (task_count t)) [
      | yes h ↦ timed_true (wait_of t i) (all_true (task_count t) _ times i h)
      | no h ↦ rw (out i (omega arith)) tt
    ];
    owners = owner_there owners;
    owned_queues = queue_owner_there owners;
    ends = λ i. (let r = tail i in (i ∷ r.0, link r.1));
    counts = λ k h. (let e = all_true (sem_count t) _ counts k h in (leb-true _ _ (and_l _ _ e), ltb-true _ _ (and_r _ _ e)));
    outcomes = λ i h. outcome_true (wait_of t i) (outcome_of t i) (all_true (task_count t) _ outcomes i h);
    queues = λ q h. fits_true t q (all_true (queue_count t) _ (and_l _ _ queues) q h);
    placed_in = leb-true _ _ (and_r _ _ queues);
    words = eight;
    queued = λ i. elim (dec_lt i (task_count t)) [
      | yes h ↦ queued_true t i (wait_of t i) (omega (arith, eight i h)) (all_true (task_count t) _ queued i h)
      | no h ↦ rw (out i (omega arith)) tt
    ];
  }
    where
      behind : eqb (length t.tasks.words) (task_count t) and eqb (length t.queues.widths) (queue_count t) and eqb (length t.queues.depths) (queue_count t) and eqb (length t.queues.messages) (queue_count t) ≡ true
      behind = and_r _ _ (and_r _ _ (and_r _ _ (and_r _ _ columns)))

      eight : (i : ℕ) → i < task_count t → length (words_of t i) ≡ held_words
      eight i h = eqb-true _ _ (all_true (task_count t) _ words i h)

      column : length t.tasks.waits ≡ task_count t
      column = eqb-true (length t.tasks.waits) (task_count t) (and_l _ _ columns)

      out : (i : ℕ) → task_count t ≤ i → wait_of t i ≡ none
      out = wait_out t column

      tail : (i : ℕ) → Ends (next t) (next t i)
      tail i = elim (dec_lt i (task_count t)) [
        | yes h ↦ ends_true (task_count t) (next t i) (all_true (task_count t) _ rings i h)
        | no h ↦ rw (next_none t i (out i (omega arith))) ([], end)
      ]

  pub tables_facts : tablesb t ≡ true → Facts t
  unfolding tablesb
  tables_facts e₀ =
      let e₁ = and_r _ _ e₀ in
      let e₂ = and_r _ _ e₁ in
      let e₃ = and_r _ _ e₂ in
      let e₄ = and_r _ _ e₃ in
      let e₅ = and_r _ _ e₄ in
      let e₆ = and_r _ _ e₅ in
      let e₇ = and_r _ _ e₆ in
      let e₈ = and_r _ _ e₇ in
      let e₉ = and_r _ _ e₈ in
      let f₀ = and_r _ _ e₉ in
      let f₁ = and_r _ _ f₀ in
      facts_of (and_l _ _ e₀) (and_l _ _ e₁) (and_l _ _ e₂) (and_l _ _ e₃) (and_l _ _ e₄) (and_l _ _ e₅) (and_l _ _ e₆) (and_l _ _ e₇) (and_l _ _ e₈)
      (and_l _ _ e₉) (and_l _ _ f₀) (and_l _ _ f₁) (and_r _ _ f₁)

  -- nobody waits but tasks
  none_outside : Facts t → (i : ℕ) → task_count t ≤ i → occ i t.tasks.waiting ≡ 0
  unfolding wait_count
  none_outside F i h = F.waiting i ∙ ap wait_count (wait_out t F.wait_column i h)

  pub facts_tables : Facts t → tablesb t ≡ true
  unfolding tablesb columnsb sizesb rangesb waitingb waitersb timesb ownersb no_ringb countsb outcomesb queuesb wordsb queue_waitsb
  facts_tables F =
      true_and _ _ (true_and _ _ (eq-eqb _ _ F.wait_column) (true_and _ _ (eq-eqb _ _ F.outcome_column) (true_and _ _ (eq-eqb _ _ F.kind_column) (true_and _ _ (eq-eqb _ _ F.maximum_column)
      (true_and _ _ (eq-eqb _ _ F.word_column) (true_and _ _ (eq-eqb _ _ F.width_column) (true_and _ _ (eq-eqb _ _ F.depth_column) (eq-eqb _ _ F.message_column))))))))
      (true_and _ _ (true_and _ _ (le-leb _ _ F.few_tasks) (true_and _ _ (le-leb _ _ F.few_mutexes) (true_and _ _ (le-leb _ _ F.few_semaphores) (le-leb _ _ F.few_queues))))
      (true_and _ _ (true_and _ _ (true_all (task_count t) _ (λ i h. lt-ltb _ _ (F.priorities i h))) (true_all (mutex_count t) _ (λ m h. lt-ltb _ _ (F.kinds_in m h))))
      (true_and _ _ (true_and _ _ (true_inside (task_count t) t.tasks.waiting (none_outside F)) (true_all (task_count t) _ (λ i h. eq-eqb _ _ (F.waiting i))))
      (true_and _ _ (true_all (task_count t) _ (λ i h. true_blocked t (wait_of t i) (F.blocked i)))
      (true_and _ _ (true_all (task_count t) _ (λ i h. true_timed (wait_of t i) (F.timed i)))
      (true_and _ _ (true_and _ _ (true_all (mutex_count t) _ (λ m h. true_exists (task_count t) (owner_of t m) (F.owners m)))
      (true_all (queue_count t) _ (λ q h. true_exists (task_count t) (queue_owner_of t q) (F.owned_queues q))))
      (true_and _ _ (true_all (task_count t) _ (λ i h. rest i (F.ends i).1))
      (true_and _ _ (true_all (sem_count t) _ (λ k h. true_and _ _ (le-leb _ _ (F.counts k h).0) (lt-ltb _ _ (F.counts k h).1)))
      (true_and _ _ (true_all (task_count t) _ (λ i h. true_outcome (wait_of t i) (outcome_of t i) (F.outcomes i h)))
      (true_and _ _ (true_and _ _ (true_all (queue_count t) _ (λ q h. true_fits t q (F.queues q h))) (le-leb _ _ F.placed_in))
      (true_and _ _ (true_all (task_count t) _ (λ i h. eq-eqb _ _ (F.words i h)))
      (true_all (task_count t) _ (λ i h. true_queued t i (wait_of t i) (F.queued i))))))))))))))
    where
      rest : (i : ℕ) {l : List ℕ} → Chain (next t) (some i) l → endsb (task_count t) (next t) (next t i) ≡ true
      rest i (link c) = true_ends c (task_count t) (chain_short (task_count t) (next_ended t F).to c ((next_ended t F).to i))

-- each phrase of the state
none_true : (l : List ℕ) → none_in l ≡ true → (i : ℕ) → occ i l ≡ 0
unfolding none_in occ
none_true [] e i = refl
none_true (x ∷ l) e i = absurd (clash e refl)

true_none : (l : List ℕ) → ((i : ℕ) → occ i l ≡ 0) → none_in l ≡ true
unfolding none_in
true_none [] h = refl
true_none (x ∷ l) h = absurd (omega (arith, h x, occ_head x l))

runs_true : (r : Option ℕ) (l : List ℕ) → someb r or none_in l ≡ true → (i : ℕ) → 1 ≤ occ i l → (k : ℕ) × (r ≡ some k)
runs_true r l e i m = elim (or_true (someb r) (none_in l) e) [ inl u ↦ some_true r u | inr u ↦ absurd (omega (arith, none_true l u i)) ]

true_runs : (r : Option ℕ) (l : List ℕ) → ((i : ℕ) → 1 ≤ occ i l → (k : ℕ) × (r ≡ some k)) → someb r or none_in l ≡ true
true_runs none l h = or_r _ _ (true_none l (λ i. elim (dec_le 1 (occ i l)) [ yes m ↦ none_some refl (h i m).1 | no m ↦ omega arith ]))
true_runs (some k) l h = or_l _ _ (true_some (some k) k refl)

hold_true : (n : ℕ) (r : Option ℕ) → eqb n 0 or someb r ≡ true → 1 ≤ n → (k : ℕ) × (r ≡ some k)
hold_true n r e h = elim (or_true (eqb n 0) (someb r) e) [ inl u ↦ absurd (omega (arith, eqb-true n 0 u)) | inr u ↦ some_true r u ]

true_hold : (n : ℕ) (r : Option ℕ) → (1 ≤ n → (k : ℕ) × (r ≡ some k)) → eqb n 0 or someb r ≡ true
true_hold zero r h = or_l _ _ (eq-eqb 0 0 refl)
true_hold (suc n) r h = let k = h (omega arith) in or_r _ _ (true_some r k.0 k.1)

-- the first ready task is the most urgent of them
top_true : (f : ℕ → ℕ) (r : Option ℕ) (l : List ℕ) → urgent_top f r l ≡ true → Asc f l → (i k : ℕ) → 1 ≤ occ i l → r ≡ some k → f k ≤ f i
unfolding urgent_top occ
top_true f r [] e a i k m q = absurd (omega arith)
top_true f none (x ∷ l) e a i k m q = none_some refl q
top_true f (some r) (x ∷ l) e a i k m q = omega (arith, leb-true (f r) (f x) e, asc_first f x l a i m, ap f (some_same q))

true_top : (f : ℕ → ℕ) (r : Option ℕ) (l : List ℕ) → ((i k : ℕ) → 1 ≤ occ i l → r ≡ some k → f k ≤ f i) → urgent_top f r l ≡ true
unfolding urgent_top
true_top f r [] h = refl
true_top f none (x ∷ l) h = refl
true_top f (some r) (x ∷ l) h = le-leb (f r) (f x) (h x r (occ_head x l) refl)

-- the part of a choice that is taken
cond_true : (b x y : Bool) → cond b x y ≡ true → b ≡ true → x ≡ true
cond_true true x y e q = e
cond_true false x y e q = absurd (clash q refl)

cond_false : (b x y : Bool) → cond b x y ≡ true → b ≡ false → y ≡ true
cond_false true x y e q = absurd (clash refl q)
cond_false false x y e q = e

-- the test of the state
module _ (s : State) where
  abbrev size : ℕ
  size = task_count s.tables

  -- how often i stands in the three places
  abbrev spots : ℕ → ℕ
  spots i = occ i s.ready + (occ i s.tables.tasks.waiting + occ i (opt s.running))

  places_true : Facts s.tables → placesb s ≡ true → Places s []
  unfolding placesb occ
  places_true F e i = elim (dec_lt i size) [
    | yes h ↦ omega (arith, eqb-true (spots i) 1 (all_true size _ (and_r _ _ (and_r _ _ e)) i h), below_in i size h)
    | no h ↦ (let k : size ≤ i = omega arith in omega (
      arith,
      below_out i size k,
      inside_true size s.ready (and_l _ _ e) i k,
      inside_true size (opt s.running) (and_l _ _ (and_r _ _ e)) i k,
      none_outside s.tables F i k,
    ))
  ]

  true_places : Places s [] → placesb s ≡ true
  unfolding placesb occ
  true_places P =
      true_and _ _ (true_inside size s.ready (λ i h. omega (arith, P i, below_out i size h)))
      (true_and _ _ (true_inside size (opt s.running) (λ i h. omega (arith, P i, below_out i size h)))
      (true_all size _ (λ i h. eq-eqb (spots i) 1 (omega (arith, P i, below_in i size h)))))

  started_true : runsb s and holdb s and urgentb s ≡ true → Asc (level_of s) s.ready → Started s
  unfolding runsb holdb urgentb
  started_true e a = record {
    runs = runs_true s.running s.ready (and_l _ _ e);
    hold_runs = hold_true s.hold s.running (and_l _ _ (and_r _ _ e));
    urgent = λ z. elim (or_true _ _ (and_r _ _ (and_r _ _ e))) [
      | inl u ↦ absurd (clash (eq-eqb s.hold 0 z) (not-true _ u))
      | inr u ↦ top_true (level_of s) s.running s.ready u a
    ];
  }

  true_started : Started s → runsb s and holdb s and urgentb s ≡ true
  unfolding runsb holdb urgentb
  true_started S =
      true_and _ _ (true_runs s.running s.ready S.runs)
      (true_and _ _ (true_hold s.hold s.running S.hold_runs)
      (elim (which (eqb s.hold 0)) [
        | inl z ↦ or_r _ _ (true_top (level_of s) s.running s.ready (S.urgent (eqb-true _ _ z)))
        | inr z ↦ or_l _ _ (ap not z)
      ]))

  set_up_true : Facts s.tables → set_upb s ≡ true → Asc (level_of s) s.ready → SetUp s
  unfolding set_upb
  set_up_true F e₀ a =
      let e₁ = and_r _ _ e₀ in
      let e₂ = and_r _ _ e₁ in
      let e₃ = and_r _ _ e₂ in
      let e₄ = and_r _ _ e₃ in
      let e₅ = and_r _ _ e₄ in
      let e₆ = and_r _ _ e₅ in
      let e₇ = and_r _ _ e₆ in
      record {
        clock_0 = eqb-true _ _ (and_l _ _ e₀);
        hold_0 = eqb-true _ _ (and_l _ _ e₁);
        idle = some_false s.running (not-true _ (and_l _ _ e₂));
        nobody_waits = none_true s.tables.tasks.waiting (and_l _ _ e₃);
        nothing_owned = λ m. elim (dec_lt m (mutex_count s.tables)) [
          | yes h ↦ some_false _ (not-true _ (all_true (mutex_count s.tables) _ (and_l _ _ e₄) m h))
          | no h ↦ get_or-eq_default s.tables.mutexes.owners none (omega arith)
        ];
        outcomes_0 = λ i. elim (dec_lt i (task_count s.tables)) [
          | yes h ↦ eqb-true _ _ (all_true (task_count s.tables) _ (and_l _ _ e₅) i h)
          | no h ↦ get_or-eq_default s.tables.tasks.outcomes 0 (omega (arith, F.outcome_column))
        ];
        queues_empty = λ q. elim (dec_lt q (queue_count s.tables)) [
          | yes h ↦ eqb-true _ _ (all_true (queue_count s.tables) _ (and_l _ _ e₆) q h)
          | no h ↦ ap length (get_or-eq_default s.tables.queues.messages [] (omega (arith, F.message_column)))
        ];
        words_0 = λ i n. elim (dec_lt i (task_count s.tables)) [
          | yes h ↦ past_true 0 (words_of s.tables i) (omega (arith, F.words i h)) (all_true (task_count s.tables) _ (and_l _ _ e₇) i h) n (omega arith)
          | no h ↦ ap (λ l. get_or l n 0) (get_or-eq_default s.tables.tasks.words [] (omega (arith, F.word_column)))
        ];
        id_order = ties_true (level_of s) s.ready a (and_r _ _ e₇);
      }

  true_set_up : SetUp s → set_upb s ≡ true
  unfolding set_upb someb
  true_set_up S =
      true_and _ _ (eq-eqb _ _ S.clock_0)
      (true_and _ _ (eq-eqb _ _ S.hold_0)
      (true_and _ _ (ap (λ o. not (someb o)) S.idle)
      (true_and _ _ (true_none s.tables.tasks.waiting S.nobody_waits)
      (true_and _ _ (true_all (mutex_count s.tables) _ (λ m h. ap (λ o. not (someb o)) (S.nothing_owned m)))
      (true_and _ _ (true_all (task_count s.tables) _ (λ i h. eq-eqb _ _ (S.outcomes_0 i)))
      (true_and _ _ (true_all (queue_count s.tables) _ (λ q h. eq-eqb _ _ (S.queues_empty q)))
      (true_and _ _ (true_all (task_count s.tables) _ (λ i h. true_past 0 (words_of s.tables i) (λ n k. S.words_0 i n)))
      (true_ties (level_of s) s.ready S.id_order))))))))

  -- document 01's term "sound state": the test and the invariant say the same
  pub sound_inv : soundb s ≡ true → Inv s
  unfolding soundb clockb ascendingb
  sound_inv e₀ =
      let e₁ = and_r _ _ e₀ in
      let e₂ = and_r _ _ e₁ in
      let e₃ = and_r _ _ e₂ in
      let F = tables_facts s.tables (and_l _ _ e₀) in
      let A = asc_true (level_of s) s.ready (and_l _ _ e₃) in
      record {
        facts = F;
        clock_in = ltb-true _ _ (and_l _ _ (and_l _ _ e₁));
        hold_in = leb-true _ _ (and_r _ _ (and_l _ _ e₁));
        places = places_true F (and_l _ _ e₂);
        ascending = A;
        when_started = λ q. started_true (cond_true _ _ _ (and_r _ _ e₃) q) A;
        at_set_up = λ q. set_up_true F (cond_false _ _ _ (and_r _ _ e₃) q) A;
      }

  pub inv_sound : Inv s → soundb s ≡ true
  unfolding soundb clockb ascendingb
  inv_sound I =
      true_and _ _ (facts_tables s.tables I.facts)
      (true_and _ _ (true_and _ _ (lt-ltb _ _ I.clock_in) (le-leb _ _ I.hold_in))
      (true_and _ _ (true_places I.places)
      (true_and _ _ (true_asc (level_of s) s.ready I.ascending)
      (by_test (λ (b : Bool). b ≡ true) s.started (λ q. true_started (I.when_started q)) (λ q. true_set_up (I.at_set_up q))))))
