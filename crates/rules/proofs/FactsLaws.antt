-- A change of owners, waits or counts keeps the facts of the tables.
use Rattle.std.specs.Prelude.{◌≡◌, refl, [], ◌∷◌, Bool, true, false, cond, not, ◌⊎◌, ℕ, ◌≤◌, ◌<◌, length, set, get_or}
use Rattle.std.proofs.Common.{ap, sym, ◌∙◌, inl, inr, arith, length-set, get_or-set_same, get_or-set_other, ltb-false}
use Rattle.std.proofs.Math.Option.{Option, none, some}
use Rattle.std.proofs.Math.Decide.{ℕ_discrete, dec_lt}
use Rattle.std.proofs.Math.ListN.{get_or-eq_default, get_or-map}
use Rattle.std.proofs.lemmas.List.{length-map}
use Rattle.std.proofs.lemmas.Bool.{eqb-false}
use Rattle.lists.specs.Test.{holds}
use Rattle.lists.specs.Count.{occ}
use Rattle.lists.specs.TestLaws.{which, clash, by_test, none_some, some_same}
use Rattle.lists.specs.CountLaws.{eqn_at, eqn_other, occ_append}
use Rattle.lists.specs.OrderLaws.{occ_kept, occ_dropped}
use Rattle.lists.specs.TableLaws.{length_edit, get_d_edit, get_d_edit_default}
use Rattle.chains.specs.Chain.{Ends, walk, Ended}
use Rattle.chains.specs.ChainLaws.{walk_is_chain, ends_change, ends_wait, ends_pass, ends_drop}
use Rattle.rules.specs.Sizes.{pending}
use Rattle.rules.specs.Tables.{Awaited, mutex_of, sem_of, room_in, message_in, time, Wait, Tables, task_count, mutex_count, sem_count, queue_count, outcome_of, wait_of, words_of, owner_of, count_of, maximum_of, depth_of, queue_owner_of, messages_of}
use Rattle.rules.specs.Levels.{owner_awaited, of_wait, next, chain_of, closes_ring, same_awaited, wait_is_for, awaits}
use Rattle.rules.specs.Effect.{give, set_count, begin_wait, end_waits, is_due, due, less_one, age, age_all}
use Rattle.rules.specs.Sound.{wait_count}
use Rattle.rules.specs.Invariant.{Unavailable, Blocked, Suits, Queued, Left, Timed, Outcome, Facts}
use Rattle.rules.proofs.LevelLaws.{next_none, awaited_owner, next_ended}
use Rattle.rules.proofs.WaiterLaws.{awaited_self}

-- who waits for whom, and that every chain ends, stays as it is where waits and owners stay
pub owner_same : (t t' : Tables) → ((m : ℕ) → owner_of t' m ≡ owner_of t m) → ((q : ℕ) → queue_owner_of t' q ≡ queue_owner_of t q) → (a : Awaited) → owner_awaited t' a ≡ owner_awaited t a
unfolding owner_awaited
owner_same t t' h g (mutex_of m) = h m
owner_same t t' h g (sem_of k) = refl
owner_same t t' h g (room_in q) = g q
owner_same t t' h g (message_in q) = refl
owner_same t t' h g time = refl

pub next_same : (t t' : Tables) (x : ℕ) → wait_of t' x ≡ wait_of t x → ((m : ℕ) → owner_of t' m ≡ owner_of t m) → ((q : ℕ) → queue_owner_of t' q ≡ queue_owner_of t q) → next t' x ≡ next t x
unfolding next of_wait
next_same t t' x e h g = rw e (go (wait_of t x))
  where
    go : (w : Option Wait) → of_wait (owner_awaited t') w ≡ of_wait (owner_awaited t) w
    go none = refl
    go (some w) = owner_same t t' h g w.on

pub ends_same : (t t' : Tables) → ((x : ℕ) → next t' x ≡ next t x) → ((i : ℕ) → Ends (next t) (some i)) → (i : ℕ) → Ends (next t') (some i)
ends_same t t' h E i = ends_change (λ x. inl (h x)) (E i).1

-- a queue stays as full as it is
abbrev pub SameQueue : Tables → Tables → ℕ → Type 0
SameQueue t t' q = (q < queue_count t') × (messages_of t' q ≡ messages_of t q) × (depth_of t' q ≡ depth_of t q)

-- what a task waits for stays unavailable where owned mutexes stay owned, counts at 0 stay at 0, and queues as full as they are
pub still : (t t' : Tables) → ((m o : ℕ) → owner_of t m ≡ some o → (o' : ℕ) × (owner_of t' m ≡ some o'))
    → ((k : ℕ) → k < sem_count t → count_of t k ≡ 0 → (k < sem_count t') × (count_of t' k ≡ 0))
    → ((q : ℕ) → q < queue_count t → SameQueue t t' q) → (w : Option Wait) → Blocked t w → Blocked t' w
still t t' f g h none b = tt
still t t' f g h (some w) b = go w.on b
  where
    go : (a : Awaited) → Unavailable t a → Unavailable t' a
    go (mutex_of m) u = f m u.0 u.1
    go (sem_of k) u = g k u.0 u.1
    go (room_in q) u = let e = h q u.0 in (e.0, ap length e.1 ∙ (u.1 ∙ sym e.2))
    go (message_in q) u = let e = h q u.0 in (e.0, ap length e.1 ∙ u.1)
    go time u = tt

-- how a task waits at a queue stays right where its words, the queue's width and the queue's owner stay
pub queued_same : (t t' : Tables) (i : ℕ) → t'.queues.widths ≡ t.queues.widths → t'.queues.owners ≡ t.queues.owners → words_of t' i ≡ words_of t i
    → (w : Option Wait) → Queued t i w → Queued t' i w
queued_same t t' i e f g none s = tt
queued_same t t' i e f g (some w) s = go w.on s
  where
    go : (a : Awaited) → Suits t i a → Suits t' i a
    go (mutex_of m) s = tt
    go (sem_of k) s = tt
    go (room_in q) s = λ n h. ap (λ l. get_or l n 0) g ∙ s n (omega (arith, ap (λ l. get_or l q 0) e))
    go (message_in q) s = λ o h. s o (ap (λ l. get_or l q none) (sym f) ∙ h)
    go time s = tt

-- who does not wait for the semaphore k stays blocked where only k changes
away : (t t' : Tables) → ((m : ℕ) → owner_of t' m ≡ owner_of t m) → (k : ℕ) → ((j : ℕ) → (j ≡ k → ⊥) → j < sem_count t → (j < sem_count t') × (count_of t' j ≡ count_of t j))
    → ((q : ℕ) → q < queue_count t → SameQueue t t' q) → (w : Option Wait) → wait_is_for w (sem_of k) ≡ false → Blocked t w → Blocked t' w
unfolding wait_is_for
away t t' f k g h none e b = tt
away t t' f k g h (some w) e b = go w.on e b
  where
    go : (a : Awaited) → same_awaited a (sem_of k) ≡ false → Unavailable t a → Unavailable t' a
    go (mutex_of m) q u = (u.0, f m ∙ u.1)
    go (sem_of j) q u = let r = g j (λ e. clash (ap (λ z. same_awaited (sem_of z) (sem_of k)) e ∙ awaited_self (sem_of k)) q) u.0 in (r.0, r.1 ∙ u.1)
    go (room_in j) q u = let r = h j u.0 in (r.0, ap length r.1 ∙ (u.1 ∙ sym r.2))
    go (message_in j) q u = let r = h j u.0 in (r.0, ap length r.1 ∙ u.1)
    go time q u = tt

-- m gets another owner, or none: what is left to show is of those who wait, of the owners and of the chains
module _ (t : Tables) (m : ℕ) (o : Option ℕ) where
  same_length : length (set t.mutexes.owners m o) ≡ mutex_count t
  same_length = length-set t.mutexes.owners m o

  owner_other : (k : ℕ) → (k ≡ m → ⊥) → owner_of (give t m o) k ≡ owner_of t k
  owner_other k n = get_or-set_other t.mutexes.owners m k o none n

  facts_owner : ((i : ℕ) → Blocked (give t m o) (wait_of t i)) → ((k r : ℕ) → owner_of (give t m o) k ≡ some r → r < task_count t)
      → ((i : ℕ) → Ends (next (give t m o)) (some i)) → Facts t → Facts (give t m o)
  facts_owner blocks owned chains F = record {
    wait_column = F.wait_column;
    outcome_column = F.outcome_column;
    kind_column = F.kind_column ∙ sym same_length;
    maximum_column = F.maximum_column;
    word_column = F.word_column;
    width_column = F.width_column;
    depth_column = F.depth_column;
    message_column = F.message_column;
    few_tasks = F.few_tasks;
    few_mutexes = omega (arith, F.few_mutexes, same_length);
    few_semaphores = F.few_semaphores;
    few_queues = F.few_queues;
    priorities = F.priorities;
    kinds_in = λ k q. F.kinds_in k (omega (arith, same_length));
    waiting = F.waiting;
    blocked = blocks;
    timed = F.timed;
    owners = owned;
    owned_queues = F.owned_queues;
    ends = chains;
    counts = F.counts;
    outcomes = F.outcomes;
    queues = F.queues;
    placed_in = F.placed_in;
    words = F.words;
    queued = λ i. queued_same t (give t m o) i refl refl refl (wait_of t i) (F.queued i);
  }

-- m becomes o's, who waits for nothing; others may wait for m
pub facts_give : (t : Tables) (m o : ℕ) → m < mutex_count t → o < task_count t → wait_of t o ≡ none → Facts t → Facts (give t m (some o))
unfolding next of_wait owner_awaited
facts_give t m o h low idle F = facts_owner t m (some o)
    (λ i. still t new (λ k r e. elim (ℕ_discrete k m) [ yes p ↦ (o, rw p at_m) | no n ↦ (r, other k n ∙ e) ]) (λ k q e. (q, e)) (λ q h. (h, refl, refl)) (wait_of t i) (F.blocked i))
    (λ k r e. elim (ℕ_discrete k m) [
      | yes p ↦ omega (arith, some_same (sym at_m ∙ rw p at e))
      | no n ↦ F.owners k r (sym (other k n) ∙ e)
    ])
    (λ i. ends_pass o (rw idle refl) (λ x. each (wait_of t x)) (F.ends i).1)
    F
  where
    new : Tables
    new = give t m (some o)

    at_m : owner_of new m ≡ some o
    at_m = get_or-set_same t.mutexes.owners m (some o) none h

    other : (k : ℕ) → (k ≡ m → ⊥) → owner_of new k ≡ owner_of t k
    other = owner_other t m (some o)

    owned : (a : Awaited) → (owner_awaited new a ≡ owner_awaited t a) ⊎ (owner_awaited new a ≡ some o)
    owned (mutex_of k) = elim (ℕ_discrete k m) [ yes p ↦ inr (rw p at_m) | no n ↦ inl (other k n) ]
    owned (sem_of k) = inl refl
    owned (room_in q) = inl refl
    owned (message_in q) = inl refl
    owned time = inl refl

    each : (w : Option Wait) → (of_wait (owner_awaited new) w ≡ of_wait (owner_awaited t) w) ⊎ (of_wait (owner_awaited new) w ≡ some o)
    each none = inl refl
    each (some w) = owned w.on

-- m, for which nobody waits, becomes free
pub facts_free : (t : Tables) (m : ℕ) → ((i : ℕ) → awaits t (mutex_of m) i ≡ false) → Facts t → Facts (give t m none)
unfolding next of_wait wait_is_for owner_awaited
facts_free t m nobody F = facts_owner t m none
    (λ i. kept (wait_of t i) (nobody i) (F.blocked i))
    (λ k r e. elim (ℕ_discrete k m) [
      | yes p ↦ none_some (freed k p) e
      | no n ↦ F.owners k r (sym (other k n) ∙ e)
    ])
    (ends_same t new (λ x. each (wait_of t x) (nobody x)) F.ends)
    F
  where
    new : Tables
    new = give t m none

    other : (k : ℕ) → (k ≡ m → ⊥) → owner_of new k ≡ owner_of t k
    other = owner_other t m none

    freed : (k : ℕ) → k ≡ m → owner_of new k ≡ none
    freed k p = elim (dec_lt m (mutex_count t)) [
      | yes h ↦ rw p (get_or-set_same t.mutexes.owners m none none h)
      | no h ↦ get_or-eq_default (set t.mutexes.owners m none) none (omega (arith, same_length t m none))
    ]

    elsewhere : (k : ℕ) → same_awaited (mutex_of k) (mutex_of m) ≡ false → owner_of new k ≡ owner_of t k
    elsewhere k e = other k (λ q. clash (ap (λ z. same_awaited (mutex_of z) (mutex_of m)) q ∙ awaited_self (mutex_of m)) e)

    owned : (a : Awaited) → same_awaited a (mutex_of m) ≡ false → owner_awaited new a ≡ owner_awaited t a
    owned (mutex_of k) e = elsewhere k e
    owned (sem_of k) e = refl
    owned (room_in q) e = refl
    owned (message_in q) e = refl
    owned time e = refl

    each : (w : Option Wait) → wait_is_for w (mutex_of m) ≡ false → of_wait (owner_awaited new) w ≡ of_wait (owner_awaited t) w
    each none e = refl
    each (some w) e = owned w.on e

    kept : (w : Option Wait) → wait_is_for w (mutex_of m) ≡ false → Blocked t w → Blocked new w
    kept none e b = tt
    kept (some w) e b = go w.on e b
      where
        go : (a : Awaited) → same_awaited a (mutex_of m) ≡ false → Unavailable t a → Unavailable new a
        go (mutex_of k) e u = (u.0, elsewhere k e ∙ u.1)
        go (sem_of k) e u = u
        go (room_in q) e u = u
        go (message_in q) e u = u
        go time e u = tt

-- r, which waits for nothing, begins to wait for what it cannot have, and no ring closes
pub facts_begin : (t : Tables) (r : ℕ) (w : Wait) → r < task_count t → wait_of t r ≡ none → Unavailable t w.on → Suits t r w.on → Left w.on w.left
    → closes_ring t r w.on ≡ false → Facts t → Facts (begin_wait t r w)
unfolding next of_wait chain_of occ wait_count
facts_begin t r w h idle un suits left clear F = record {
  wait_column = omega (arith, F.wait_column, length-set t.tasks.waits r (some w));
  outcome_column = omega (arith, F.outcome_column, length-set t.tasks.outcomes r pending);
  kind_column = F.kind_column;
  maximum_column = F.maximum_column;
  word_column = F.word_column;
  width_column = F.width_column;
  depth_column = F.depth_column;
  message_column = F.message_column;
  few_tasks = F.few_tasks;
  few_mutexes = F.few_mutexes;
  few_semaphores = F.few_semaphores;
  few_queues = F.few_queues;
  priorities = F.priorities;
  kinds_in = F.kinds_in;
  waiting = λ i. elim (ℕ_discrete i r) [
    | yes p ↦ rw (p, at_r) (omega (arith, F.waiting r, ap wait_count idle, occ_append r t.tasks.waiting (r ∷ []), eqn_at r r refl))
    | no n ↦ rw (other i n) (omega (arith, F.waiting i, occ_append i t.tasks.waiting (r ∷ []), eqn_other r i (λ q. n (sym q))))
  ];
  blocked = λ i. elim (ℕ_discrete i r) [ yes p ↦ rw (p, at_r) (begun w.on un) | no n ↦ rw (other i n) (still t new (λ m o e. (o, e)) (λ k q e. (q, e)) (λ q h. (h, refl, refl)) (wait_of t i) (F.blocked i)) ];
  timed = λ i. elim (ℕ_discrete i r) [ yes p ↦ rw (p, at_r) left | no n ↦ rw (other i n) (F.timed i) ];
  owners = F.owners;
  owned_queues = F.owned_queues;
  ends = chains (owner_awaited t w.on) refl;
  counts = F.counts;
  outcomes = λ i q. elim (ℕ_discrete i r) [
    | yes p ↦ rw (p, at_r) (get_or-set_same t.tasks.outcomes r pending 0 (omega (arith, F.outcome_column)))
    | no n ↦ rw (other i n, get_or-set_other t.tasks.outcomes r i pending 0 n) (F.outcomes i q)
  ];
  queues = F.queues;
  placed_in = F.placed_in;
  words = F.words;
  queued = λ i. elim (ℕ_discrete i r) [
    | yes p ↦ rw (p, at_r) (queued_same t new r refl refl refl (some w) suits)
    | no n ↦ rw (other i n) (queued_same t new i refl refl refl (wait_of t i) (F.queued i))
  ];
}
  where
    new : Tables
    new = begin_wait t r w

    at_r : wait_of new r ≡ some w
    at_r = get_or-set_same t.tasks.waits r (some w) none (omega (arith, F.wait_column))

    other : (x : ℕ) → (x ≡ r → ⊥) → wait_of new x ≡ wait_of t x
    other x n = get_or-set_other t.tasks.waits r x (some w) none n

    begun : (a : Awaited) → Unavailable t a → Unavailable new a
    begun (mutex_of m) u = u
    begun (sem_of k) u = u
    begun (room_in q) u = u
    begun (message_in q) u = u
    begun time u = tt

    owned : owner_awaited new w.on ≡ owner_awaited t w.on
    owned = owner_same t new (λ m. refl) (λ q. refl) w.on

    next_other : (x : ℕ) → (x ≡ r → ⊥) → next new x ≡ next t x
    next_other x n = next_same t new x (other x n) (λ m. refl) (λ q. refl)

    -- r waits for what nobody owns, or for what the task o owns, whose chain does not come to r
    chains : (q : Option ℕ) → owner_awaited t w.on ≡ q → (i : ℕ) → Ends (next new) (some i)
    chains none e i = ends_drop (λ x. elim (ℕ_discrete x r) [ yes p ↦ inr (rw (p, at_r) (owned ∙ e)) | no n ↦ inl (next_other x n) ]) (F.ends i).1
    chains (some o) e i = ends_wait r o (rw at_r (owned ∙ e)) next_other (walk_is_chain ended (some o) (λ j q. omega (arith, some_same q, awaited_owner t F w.on o e)))
        (omega (arith, ltb-false 0 (occ r (walk (task_count t) (next t) (owner_awaited t w.on))) clear, ap (λ q. occ r (walk (task_count t) (next t) q)) e)) (F.ends i).1
      where
        ended : Ended (task_count t) (next t)
        ended = next_ended t F

-- who waits after some waits ended
pub wait_ended : (t : Tables) (p : ℕ → Bool) (out : ℕ → ℕ) (i : ℕ) → wait_of (end_waits t p out) i ≡ cond (p i) none (wait_of t i)
wait_ended t p out i = get_d_edit_default (λ j x. cond (p j) none x) none t.tasks.waits i (λ j. by_test (λ (z : Option Wait). z ≡ none) (p j) (λ e. refl) (λ e. refl))

-- some waits end
pub facts_end : (t : Tables) (p : ℕ → Bool) (out : ℕ → ℕ) → ((i : ℕ) → p i ≡ true → Outcome none (out i)) → Facts t → Facts (end_waits t p out)
unfolding wait_count
facts_end t p out good F = record {
  wait_column = length_edit (λ i x. cond (p i) none x) t.tasks.waits ∙ F.wait_column;
  outcome_column = length_edit (λ i x. cond (p i) (out i) x) t.tasks.outcomes ∙ F.outcome_column;
  kind_column = F.kind_column;
  maximum_column = F.maximum_column;
  word_column = F.word_column;
  width_column = F.width_column;
  depth_column = F.depth_column;
  message_column = F.message_column;
  few_tasks = F.few_tasks;
  few_mutexes = F.few_mutexes;
  few_semaphores = F.few_semaphores;
  few_queues = F.few_queues;
  priorities = F.priorities;
  kinds_in = F.kinds_in;
  waiting = λ i. elim (which (p i)) [
    | inl e ↦ rw (gone i e) (occ_dropped (λ j. not (p j)) i t.tasks.waiting (rw e refl))
    | inr e ↦ rw (stays i e) (occ_kept (λ j. not (p j)) i t.tasks.waiting (rw e refl) ∙ F.waiting i)
  ];
  blocked = λ i. elim (which (p i)) [ inl e ↦ rw (gone i e) tt | inr e ↦ rw (stays i e) (still t new (λ m o q. (o, q)) (λ k h q. (h, q)) (λ q h. (h, refl, refl)) (wait_of t i) (F.blocked i)) ];
  timed = λ i. elim (which (p i)) [ inl e ↦ rw (gone i e) tt | inr e ↦ rw (stays i e) (F.timed i) ];
  owners = F.owners;
  owned_queues = F.owned_queues;
  ends = λ i. ends_drop (λ x. elim (which (p x)) [ inl e ↦ inr (next_none new x (gone x e)) | inr e ↦ inl (next_same t new x (stays x e) (λ m. refl) (λ q. refl)) ]) (F.ends i).1;
  counts = F.counts;
  outcomes = λ i h. elim (which (p i)) [
    | inl e ↦ rw (gone i e, outcome_at i h, e) (good i e)
    | inr e ↦ rw (stays i e, outcome_at i h, e) (F.outcomes i h)
  ];
  queues = F.queues;
  placed_in = F.placed_in;
  words = F.words;
  queued = λ i. elim (which (p i)) [ inl e ↦ rw (gone i e) tt | inr e ↦ rw (stays i e) (queued_same t new i refl refl refl (wait_of t i) (F.queued i)) ];
}
  where
    new : Tables
    new = end_waits t p out

    gone : (i : ℕ) → p i ≡ true → wait_of new i ≡ none
    gone i e = wait_ended t p out i ∙ rw e refl

    stays : (i : ℕ) → p i ≡ false → wait_of new i ≡ wait_of t i
    stays i e = wait_ended t p out i ∙ rw e refl

    outcome_at : (i : ℕ) → i < task_count t → outcome_of new i ≡ cond (p i) (out i) (outcome_of t i)
    outcome_at i h = get_d_edit (λ j x. cond (p j) (out j) x) 0 t.tasks.outcomes i (omega (arith, F.outcome_column))

-- a semaphore for which nobody waits gets another count
pub facts_count : (t : Tables) (k n : ℕ) → ((i : ℕ) → awaits t (sem_of k) i ≡ false) → n ≤ maximum_of t k → Facts t → Facts (set_count t k n)
facts_count t k n nobody low F = record {
  wait_column = F.wait_column;
  outcome_column = F.outcome_column;
  kind_column = F.kind_column;
  maximum_column = F.maximum_column ∙ sym same_length;
  word_column = F.word_column;
  width_column = F.width_column;
  depth_column = F.depth_column;
  message_column = F.message_column;
  few_tasks = F.few_tasks;
  few_mutexes = F.few_mutexes;
  few_semaphores = omega (arith, F.few_semaphores, same_length);
  few_queues = F.few_queues;
  priorities = F.priorities;
  kinds_in = F.kinds_in;
  waiting = F.waiting;
  blocked = λ i. away t (set_count t k n) (λ m. refl) k (λ j q h. (omega (arith, same_length), get_or-set_other t.semaphores.counts k j n 0 q)) (λ q h. (h, refl, refl)) (wait_of t i) (nobody i) (F.blocked i);
  timed = F.timed;
  owners = F.owners;
  owned_queues = F.owned_queues;
  ends = ends_same t (set_count t k n) (λ x. next_same t (set_count t k n) x refl (λ m. refl) (λ q. refl)) F.ends;
  counts = λ j h. elim (ℕ_discrete j k) [
    | yes p ↦ rw (p, get_or-set_same t.semaphores.counts k n 0 (omega (arith, same_length))) (low, (F.counts k (omega (arith, same_length))).1)
    | no q ↦ rw (get_or-set_other t.semaphores.counts k j n 0 q) (F.counts j (omega (arith, same_length)))
  ];
  outcomes = F.outcomes;
  queues = F.queues;
  placed_in = F.placed_in;
  words = F.words;
  queued = λ i. queued_same t (set_count t k n) i refl refl refl (wait_of t i) (F.queued i);
}
  where
    same_length : length (set t.semaphores.counts k n) ≡ sem_count t
    same_length = length-set t.semaphores.counts k n

-- a tick less for every wait, where none is due
pub facts_age : (t : Tables) → ((i : ℕ) → due t i ≡ false) → Facts t → Facts (age_all t)
unfolding next of_wait age wait_count less_one holds is_due
facts_age t later F = record {
  wait_column = length-map t.tasks.waits age ∙ F.wait_column;
  outcome_column = F.outcome_column;
  kind_column = F.kind_column;
  maximum_column = F.maximum_column;
  word_column = F.word_column;
  width_column = F.width_column;
  depth_column = F.depth_column;
  message_column = F.message_column;
  few_tasks = F.few_tasks;
  few_mutexes = F.few_mutexes;
  few_semaphores = F.few_semaphores;
  few_queues = F.few_queues;
  priorities = F.priorities;
  kinds_in = F.kinds_in;
  waiting = λ i. rw (aged i) (F.waiting i ∙ age_count (wait_of t i));
  blocked = λ i. rw (aged i) (age_blocked (wait_of t i) (F.blocked i));
  timed = λ i. rw (aged i) (age_timed (wait_of t i) (later i) (F.timed i));
  owners = F.owners;
  owned_queues = F.owned_queues;
  ends = ends_same t (age_all t) (λ x. rw (aged x) (age_owner (wait_of t x))) F.ends;
  counts = F.counts;
  outcomes = λ i h. rw (aged i) (age_outcome (wait_of t i) (outcome_of t i) (F.outcomes i h));
  queues = F.queues;
  placed_in = F.placed_in;
  words = F.words;
  queued = λ i. rw (aged i) (age_queued i (wait_of t i) (F.queued i));
}
  where
    aged : (i : ℕ) → wait_of (age_all t) i ≡ age (wait_of t i)
    aged i = get_or-map age t.tasks.waits i none

    age_count : (w : Option Wait) → wait_count w ≡ wait_count (age w)
    age_count none = refl
    age_count (some w) = refl

    age_owner : (w : Option Wait) → of_wait (owner_awaited (age_all t)) (age w) ≡ of_wait (owner_awaited t) w
    age_owner none = refl
    age_owner (some w) = owner_same t (age_all t) (λ m. refl) (λ q. refl) w.on

    age_queued : (i : ℕ) (w : Option Wait) → Queued t i w → Queued (age_all t) i (age w)
    age_queued i none s = tt
    age_queued i (some w) s = queued_same t (age_all t) i refl refl refl (some w) s

    age_blocked : (w : Option Wait) → Blocked t w → Blocked (age_all t) (age w)
    age_blocked none b = tt
    age_blocked (some w) b = go w.on b
      where
        go : (a : Awaited) → Unavailable t a → Unavailable (age_all t) a
        go (mutex_of m) u = u
        go (sem_of k) u = u
        go (room_in q) u = u
        go (message_in q) u = u
        go time u = tt

    age_outcome : (w : Option Wait) (n : ℕ) → Outcome w n → Outcome (age w) n
    age_outcome none n o = o
    age_outcome (some w) n o = o

    age_left : (a : Awaited) (l : Option ℕ) → holds l 1 ≡ false → Left a l → Left a (less_one l)
    age_left a none e h = h
    age_left a (some n) e h = (omega (arith, eqb-false n 1 e), omega arith)

    age_timed : (w : Option Wait) → is_due w ≡ false → Timed w → Timed (age w)
    age_timed none e h = tt
    age_timed (some w) e h = age_left w.on w.left e h
