-- A message sent, handed over, taken, or taken with a waiting sender's in its place keeps the facts of the tables.
use Rattle.std.specs.Prelude.{◌≡◌, refl, List, [], ◌∷◌, ◌++◌, true, false, ℕ, ◌≤◌, ◌<◌, eqb, length, get_or}
use Rattle.std.proofs.Common.{ap, ◌∙◌, subst, inl, inr, arith, length-take-le, eq-eqb}
use Rattle.std.proofs.Math.Option.{Option, none, some}
use Rattle.std.proofs.lemmas.Bool.{eqb-false}
use Rattle.lists.specs.TestLaws.{which, by_test}
use Rattle.lists.specs.TableLaws.{length_snoc}
use Rattle.rules.specs.Sizes.{held_words, granted}
use Rattle.rules.specs.Tables.{Awaited, room_in, message_in, Wait, Tables, task_count, queue_count, wait_of, words_of, width_of, depth_of, messages_of}
use Rattle.rules.specs.Levels.{wait_is_for, awaits, best_waiter}
use Rattle.rules.specs.Effect.{set_messages, hands, end_waits, is_full, sent_by}
use Rattle.rules.specs.Invariant.{Suits, QueueFits, Facts}
use Rattle.rules.proofs.FactsLaws.{wait_ended, facts_end}
use Rattle.rules.proofs.QueueLaws.{width_range, held_past, fits_more, fits_less, hands_own, facts_hands, facts_messages, blocked_messages}
use Rattle.rules.proofs.WaiterLaws.{awaits_waits, awaited_blocked, wait_in_lem, best_waits, nobody_best}

-- who waits for nothing doesn't wait for a
no_wait_for : (a : Awaited) → wait_is_for none a ≡ false
unfolding wait_is_for
no_wait_for a = refl

module _ (t : Tables) (F : Facts t) (q : ℕ) (low : q < queue_count t) where
  Q : QueueFits (width_of t q) (depth_of t q) (messages_of t q)
  Q = F.queues q low

  -- a message of the queue's width can be held
  module _ (m : List ℕ) (wide : length m ≡ width_of t q) where
    short : length m ≤ held_words
    short = omega (arith, (width_range (width_of t q) Q.width_in).1)

    -- r holds it, and waits for nothing
    pub held_facts : (r : ℕ) → r < task_count t → wait_of t r ≡ none → Facts (hands t r m)
    held_facts r h idle = facts_hands t r m h short (rw idle tt) F

    -- the words past the width are 0
    pub held_suits : (r : ℕ) → r < task_count t → Suits (hands t r m) r (room_in q)
    held_suits r h = λ n k. ap (λ l. get_or l n 0) (hands_own t r m (omega (arith, F.word_column))) ∙ held_past m n (omega arith)

    -- it goes to the tail of a queue that has room, where nobody waits to receive
    pub sent_facts : is_full t q ≡ false → best_waiter t (message_in q) ≡ none → Facts (set_messages t q (messages_of t q ++ (m ∷ [])))
    sent_facts gap e = facts_messages t q (messages_of t q ++ (m ∷ [])) low
        (fits_more (width_of t q) (depth_of t q) (messages_of t q) m wide (omega (arith, Q.room, eqb-false (length (messages_of t q)) (depth_of t q) gap)) Q)
        (blocked_messages t q _ F low (nobody_best t F (message_in q) e) (inl nobody)) F
      where
        nobody : (i : ℕ) → awaits t (room_in q) i ≡ false
        nobody i = elim (which (awaits t (room_in q) i)) [
          | inl f ↦ absurd (eqb-false (length (messages_of t q)) (depth_of t q) gap (awaited_blocked t (room_in q) (wait_of t i) (F.blocked i) f).1)
          | inr f ↦ f
        ]

    -- it goes to the waiting receiver w
    pub handed_facts : (w : ℕ) → best_waiter t (message_in q) ≡ some w → Facts (hands (end_waits t (eqb w) (λ i. granted)) w m)
    handed_facts w e = facts_hands (end_waits t (eqb w) (λ i. granted)) w m
        (wait_in_lem t F w (omega (arith, awaits_waits (wait_of t w) (message_in q) (best_waits t F (message_in q) w e)))) short
        (rw (wait_ended t (eqb w) (λ i. granted) w, eq-eqb w w refl) tt) (facts_end t (eqb w) (λ i. granted) (λ i f. inl refl) F)

  -- the oldest message m is taken by r, which waits for nothing
  module _ (m : List ℕ) (ms : List (List ℕ)) (e : messages_of t q ≡ m ∷ ms) (r : ℕ) (h : r < task_count t) (idle : wait_of t r ≡ none) where
    fits : QueueFits (width_of t q) (depth_of t q) (m ∷ ms)
    fits = subst (QueueFits (width_of t q) (depth_of t q)) e Q

    pub oldest_wide : length m ≡ width_of t q
    oldest_wide = fits.wide 0 (omega arith)

    -- nobody waits to receive from a queue that has a message
    none_receives : (i : ℕ) → awaits t (message_in q) i ≡ false
    none_receives i = elim (which (awaits t (message_in q) i)) [
      | inl f ↦ absurd (omega (arith, (awaited_blocked t (message_in q) (wait_of t i) (F.blocked i) f).1, ap length e))
      | inr f ↦ f
    ]

    -- where nobody waits to send
    pub took_facts : best_waiter t (room_in q) ≡ none → Facts (hands (set_messages t q ms) r m)
    took_facts best = facts_hands (set_messages t q ms) r m h (short m oldest_wide) (rw idle tt)
        (facts_messages t q ms low (fits_less _ _ m ms fits) (blocked_messages t q ms F low none_receives (inl (nobody_best t F (room_in q) best))) F)

    -- and where w does
    module _ (w : ℕ) (best : best_waiter t (room_in q) ≡ some w) where
      waits : awaits t (room_in q) w ≡ true
      waits = best_waits t F (room_in q) w best

      pub sender_full : length (messages_of t q) ≡ depth_of t q
      sender_full = (awaited_blocked t (room_in q) (wait_of t w) (F.blocked w) waits).1

      pub sender_in : w < task_count t
      sender_in = wait_in_lem t F w (omega (arith, awaits_waits (wait_of t w) (room_in q) waits))

      pub sent_wide : length (sent_by t q w) ≡ width_of t q
      sent_wide = length-take-le (width_of t q) (words_of t w) (omega (arith, F.words w sender_in, (width_range (width_of t q) Q.width_in).1))

      pub swapped_facts : Facts (hands (set_messages (end_waits t (eqb w) (λ i. granted)) q (ms ++ (sent_by t q w ∷ []))) r m)
      swapped_facts = facts_hands (set_messages T q new) r m h (short m oldest_wide) (rw gone tt)
          (facts_messages T q new low (fits_more _ _ ms (sent_by t q w) sent_wide (omega (arith, sender_full, ap length e)) (fits_less _ _ m ms fits))
          (blocked_messages T q new G low still_none (inr (omega (arith, length_snoc ms (sent_by t q w), sender_full, ap length e)))) G)
        where
          T : Tables
          T = end_waits t (eqb w) (λ i. granted)

          G : Facts T
          G = facts_end t (eqb w) (λ i. granted) (λ i f. inl refl) F

          new : List (List ℕ)
          new = ms ++ (sent_by t q w ∷ [])

          gone : wait_of T r ≡ none
          gone = wait_ended t (eqb w) (λ i. granted) r ∙ by_test (λ (x : Option Wait). x ≡ none) (eqb w r) (λ f. refl) (λ f. idle)

          still_none : (i : ℕ) → awaits T (message_in q) i ≡ false
          still_none i = ap (λ x. wait_is_for x (message_in q)) (wait_ended t (eqb w) (λ j. granted) i)
              ∙ by_test (λ (x : Option Wait). wait_is_for x (message_in q) ≡ false) (eqb w i) (λ f. no_wait_for (message_in q)) (λ f. none_receives i)
