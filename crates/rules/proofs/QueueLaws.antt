-- A change of messages or of held words keeps the facts of the tables.
use Rattle.std.specs.Prelude.{◌≡◌, List, [], ◌∷◌, ◌++◌, true, false, ◌⊎◌, ℕ, suc, ◌≤◌, ◌<◌, eqb, length, set, get_or}
use Rattle.std.proofs.Math.Path.{refl, fun_ext}
use Rattle.std.proofs.Common.{ap, ◌∙◌, arith, length-set, get_or-set_same, get_or-set_other, eqb-true}
use Rattle.std.proofs.Math.Logic.{inl, inr}
use Rattle.std.proofs.Math.Option.{Option, none, some}
use Rattle.std.proofs.Math.Decide.{ℕ_discrete}
use Rattle.std.proofs.Math.ListN.{get_or-append, get_or-eq_default}
use Rattle.lists.specs.TestLaws.{clash, or_true}
use Rattle.lists.specs.TableLaws.{snoc_last, length_snoc, get_d_pad, length_pad}
use Rattle.rules.specs.Sizes.{held_words}
use Rattle.rules.specs.Tables.{Awaited, mutex_of, sem_of, room_in, message_in, time, Wait, Tables, task_count, queue_count, wait_of, words_of, width_of, depth_of, messages_of}
use Rattle.rules.specs.Levels.{next, chain_of, same_awaited, wait_is_for, awaits}
use Rattle.rules.specs.Effect.{held_for, set_messages, hands}
use Rattle.rules.specs.Sound.{is_width}
use Rattle.rules.specs.Invariant.{Unavailable, Blocked, Queued, QueueFits, Facts}
use Rattle.rules.proofs.FactsLaws.{owner_same, next_same, ends_same, still, queued_same}
use Rattle.rules.proofs.WaiterLaws.{awaited_self}

-- a width is 1 to 8
pub width_range : (w : ℕ) → is_width w ≡ true → (1 ≤ w) × (w ≤ held_words)
unfolding is_width
width_range w e = elim (or_true (eqb w 1) _ e) [
  | inl a ↦ (omega (arith, eqb-true w 1 a), omega (arith, eqb-true w 1 a))
  | inr f ↦ elim (or_true (eqb w 2) _ f) [
    | inl a ↦ (omega (arith, eqb-true w 2 a), omega (arith, eqb-true w 2 a))
    | inr g ↦ elim (or_true (eqb w 4) _ g) [
      | inl a ↦ (omega (arith, eqb-true w 4 a), omega (arith, eqb-true w 4 a))
      | inr a ↦ (omega (arith, eqb-true w 8 a), omega (arith, eqb-true w 8 a))
    ]
  ]
]

-- a message as it is held: eight words, its own first and the rest 0
pub length_held : (m : List ℕ) → length m ≤ held_words → length (held_for m) ≡ held_words
unfolding held_for
length_held m h = length_pad held_words 0 m h

pub held_word : (m : List ℕ) (n : ℕ) → get_or (held_for m) n 0 ≡ get_or m n 0
unfolding held_for
held_word m n = get_d_pad held_words 0 m n

pub held_past : (m : List ℕ) (n : ℕ) → length m ≤ n → get_or (held_for m) n 0 ≡ 0
held_past m n h = held_word m n ∙ get_or-eq_default m 0 h

-- one message more, and one less, of a queue that fits
pub fits_more : (w d : ℕ) (ms : List (List ℕ)) (m : List ℕ) → length m ≡ w → length ms < d → QueueFits w d ms → QueueFits w d (ms ++ (m ∷ []))
fits_more w d ms m e h Q = record {
  width_in = Q.width_in;
  depth_above = Q.depth_above;
  depth_in = Q.depth_in;
  room = omega (arith, length_snoc ms m);
  wide = λ k l. elim (ℕ_discrete k (length ms)) [
    | yes p ↦ rw (p, snoc_last m [] ms) e
    | no n ↦ (let q : k < length ms = omega (arith, length_snoc ms m) in rw (get_or-append ms (m ∷ []) [] k q) (Q.wide k q))
  ];
}

pub fits_less : (w d : ℕ) (m : List ℕ) (ms : List (List ℕ)) → QueueFits w d (m ∷ ms) → QueueFits w d ms
fits_less w d m ms Q = record {
  width_in = Q.width_in;
  depth_above = Q.depth_above;
  depth_in = Q.depth_in;
  room = omega (arith, Q.room);
  wide = λ k l. Q.wide (suc k) (omega arith);
}

module _ (t : Tables) (i : ℕ) (m : List ℕ) where
  pub hands_own : i < length t.tasks.words → words_of (hands t i m) i ≡ held_for m
  hands_own h = get_or-set_same t.tasks.words i (held_for m) [] h

  -- nothing but words is read otherwise
  next_held : next (hands t i m) ≡ next t
  next_held = fun_ext (λ x. next_same t (hands t i m) x refl (λ k. refl) (λ q. refl))

  pub chain_held : (a : Awaited) → chain_of (hands t i m) a ≡ chain_of t a
  unfolding chain_of
  chain_held a = rw (next_held, owner_same t (hands t i m) (λ k. refl) (λ q. refl) a) refl

  pub blocked_held : (w : Option Wait) → Blocked t w → Blocked (hands t i m) w
  blocked_held w b = still t (hands t i m) (λ k o e. (o, e)) (λ k h e. (h, e)) (λ q h. (h, refl, refl)) w b

  -- i holds a message, and waits for nothing, or to receive
  pub facts_hands : i < task_count t → length m ≤ held_words → Queued (hands t i m) i (wait_of t i) → Facts t → Facts (hands t i m)
  facts_hands low fits suits F = record {
    wait_column = F.wait_column;
    outcome_column = F.outcome_column;
    kind_column = F.kind_column;
    maximum_column = F.maximum_column;
    word_column = length-set t.tasks.words i (held_for m) ∙ F.word_column;
    width_column = F.width_column;
    depth_column = F.depth_column;
    message_column = F.message_column;
    few_tasks = F.few_tasks;
    few_mutexes = F.few_mutexes;
    few_semaphores = F.few_semaphores;
    few_queues = F.few_queues;
    priorities = F.priorities;
    kinds_in = F.kinds_in;
    waiting = F.waiting;
    blocked = λ j. blocked_held (wait_of t j) (F.blocked j);
    timed = F.timed;
    owners = F.owners;
    owned_queues = F.owned_queues;
    ends = ends_same t (hands t i m) (λ x. next_same t (hands t i m) x refl (λ k. refl) (λ q. refl)) F.ends;
    counts = F.counts;
    outcomes = F.outcomes;
    queues = F.queues;
    placed_in = F.placed_in;
    words = λ j h. elim (ℕ_discrete j i) [ yes p ↦ rw (p, own) (length_held m fits) | no n ↦ rw (other j n) (F.words j h) ];
    queued = λ j. elim (ℕ_discrete j i) [
      | yes p ↦ rw p suits
      | no n ↦ queued_same t (hands t i m) j refl refl (other j n) (wait_of t j) (F.queued j)
    ];
  }
    where
      own : words_of (hands t i m) i ≡ held_for m
      own = hands_own (omega (arith, F.word_column))

      other : (j : ℕ) → (j ≡ i → ⊥) → words_of (hands t i m) j ≡ words_of t j
      other j n = get_or-set_other t.tasks.words i j (held_for m) [] n

module _ (t : Tables) (q : ℕ) (ms : List (List ℕ)) where
  new : Tables
  new = set_messages t q ms

  same_length : length (set t.queues.messages q ms) ≡ length t.queues.messages
  same_length = length-set t.queues.messages q ms

  other : (j : ℕ) → (j ≡ q → ⊥) → messages_of (set_messages t q ms) j ≡ messages_of t j
  other j n = get_or-set_other t.queues.messages q j ms [] n

  -- q's messages become ms
  pub facts_messages : q < queue_count t → QueueFits (width_of t q) (depth_of t q) ms → ((i : ℕ) → Blocked (set_messages t q ms) (wait_of t i)) → Facts t → Facts (set_messages t q ms)
  facts_messages low fits blocks F = record {
    wait_column = F.wait_column;
    outcome_column = F.outcome_column;
    kind_column = F.kind_column;
    maximum_column = F.maximum_column;
    word_column = F.word_column;
    width_column = F.width_column;
    depth_column = F.depth_column;
    message_column = same_length ∙ F.message_column;
    few_tasks = F.few_tasks;
    few_mutexes = F.few_mutexes;
    few_semaphores = F.few_semaphores;
    few_queues = F.few_queues;
    priorities = F.priorities;
    kinds_in = F.kinds_in;
    waiting = F.waiting;
    blocked = blocks;
    timed = F.timed;
    owners = F.owners;
    owned_queues = F.owned_queues;
    ends = ends_same t (set_messages t q ms) (λ x. next_same t (set_messages t q ms) x refl (λ k. refl) (λ j. refl)) F.ends;
    counts = F.counts;
    outcomes = F.outcomes;
    queues = λ j h. elim (ℕ_discrete j q) [
      | yes p ↦ rw (p, get_or-set_same t.queues.messages q ms [] (omega (arith, F.message_column))) fits
      | no n ↦ rw (other j n) (F.queues j h)
    ];
    placed_in = F.placed_in;
    words = F.words;
    queued = λ i. queued_same t (set_messages t q ms) i refl refl refl (wait_of t i) (F.queued i);
  }

  -- nobody waits to receive from q, and nobody to send to it where it isn't full
  pub blocked_messages : Facts t → q < queue_count t → ((i : ℕ) → awaits t (message_in q) i ≡ false) → (((i : ℕ) → awaits t (room_in q) i ≡ false) ⊎ (length ms ≡ depth_of t q))
      → (i : ℕ) → Blocked (set_messages t q ms) (wait_of t i)
  unfolding wait_is_for
  blocked_messages F low silent full i = go (wait_of t i) (silent i) (rooms full) (F.blocked i)
    where
      rooms : (((j : ℕ) → awaits t (room_in q) j ≡ false) ⊎ (length ms ≡ depth_of t q)) → (wait_is_for (wait_of t i) (room_in q) ≡ false) ⊎ (length ms ≡ depth_of t q)
      rooms (inl h) = inl (h i)
      rooms (inr e) = inr e

      at_q : messages_of (set_messages t q ms) q ≡ ms
      at_q = get_or-set_same t.queues.messages q ms [] (omega (arith, F.message_column))

      on : (a : Awaited) → same_awaited a (message_in q) ≡ false → (same_awaited a (room_in q) ≡ false) ⊎ (length ms ≡ depth_of t q) → Unavailable t a → Unavailable (set_messages t q ms) a
      on (mutex_of k) e f u = u
      on (sem_of k) e f u = u
      on (room_in j) e f u = elim (ℕ_discrete j q) [
        | yes p ↦ elim f [
          | inl g ↦ absurd (clash (ap (λ z. same_awaited (room_in z) (room_in q)) p ∙ awaited_self (room_in q)) g)
          | inr g ↦ (u.0, rw p (ap length at_q ∙ g))
        ]
        | no n ↦ (u.0, ap length (other j n) ∙ u.1)
      ]
      on (message_in j) e f u = elim (ℕ_discrete j q) [
        | yes p ↦ absurd (clash (ap (λ z. same_awaited (message_in z) (message_in q)) p ∙ awaited_self (message_in q)) e)
        | no n ↦ (u.0, ap length (other j n) ∙ u.1)
      ]
      on time e f u = tt

      go : (w : Option Wait) → wait_is_for w (message_in q) ≡ false → (wait_is_for w (room_in q) ≡ false) ⊎ (length ms ≡ depth_of t q) → Blocked t w → Blocked (set_messages t q ms) w
      go none e f b = tt
      go (some w) e f b = on w.on e f b
