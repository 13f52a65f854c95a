-- A step's change of queues keeps the messages standing in the block: one more, the oldest taken, or both; every other queue keeps its own.
use Rattle.std.specs.Prelude.{◌≡◌, ℕ, zero, suc, ◌+◌, ◌-◌, ◌*◌, ◌<◌, ◌≤◌, List, [], ◌∷◌, ◌++◌, length, drop, ◌≢◌, slice_index, slice_set}
use Rattle.std.proofs.Math.Path.{refl, ap, sym}
use Rattle.std.proofs.Common.{◌∙◌, arith, length-set, get_or-set_same, get_or-set_other}
use Rattle.std.proofs.Math.Option.{Option}
use Rattle.std.proofs.Math.Decide.{ℕ_discrete}
use Rattle.std.proofs.Math.ListN.{get_or-append}
use Rattle.std.proofs.Math.Seq.{get_or_at}
use Rattle.lists.specs.Table.{filled}
use Rattle.lists.specs.TableLaws.{length_snoc, snoc_default}
use Rattle.rules.specs.Tables.{QueueTable, Tables, queue_count, width_of, depth_of, messages_of, taken_by}
use Rattle.rules.specs.Invariant.{Facts}
use Rattle.rules.proofs.QueueLaws.{width_range}
use Rattle.rules.specs.Effect.{set_messages, add_queue}
use Rattle.rings.specs.Words.{laid}
use Rattle.rings.specs.Ring.{Ring, slot_of, spot, messages, Sits, fuller, fewer, turned}
use Rattle.rings.proofs.RingLaws.{slot_in}
use Rattle.rings.specs.Starts.{start_of, Placed}
use Rattle.rings.proofs.StartsLaws.{start_same, start_behind, starts_apart}
use Rattle.rings.proofs.PutLaws.{length_put, put_apart, put_appends}
use Rattle.rings.proofs.TakeLaws.{take_first}
use Rattle.rings.proofs.SwapLaws.{swap_messages}
use Rattle.record.specs.Layout.{ring_of, Stands}

-- the words that queues take are where the next one starts
pub taken_start : (ws ds : List ℕ) (n : ℕ) → start_of ws ds n ≡ taken_by ws ds n
unfolding start_of taken_by
taken_start ws ds zero = refl
taken_start ws ds (suc n) = ap (λ k. k + slice_index ws n * slice_index ds n) (taken_start ws ds n)

same_ring : (a b : Ring) → a.at ≡ b.at → a.width ≡ b.width → a.depth ≡ b.depth → a.oldest ≡ b.oldest → a.used ≡ b.used → a ≡ b
same_ring a b p q r s t = λ i. record { at = p i; width = q i; depth = r i; oldest = s i; used = t i }

placed : (o : List ℕ) (x : QueueTable) (q : ℕ) → Placed x.widths x.depths q (ring_of o x q)
placed o x q = record { begins = refl; wide = refl; deep = refl }

-- the queues of a sound state
module _ (t : Tables) (F : Facts t) (o b : List ℕ) (S : Stands o b t.queues) where
  abbrev ring : ℕ → Ring
  ring q = ring_of o t.queues q

  -- each lies in the block
  pub sits : (q : ℕ) → q < queue_count t → Sits (length b) (ring q)
  sits q h = record {
    some = (width_range (width_of t q) (F.queues q h).width_in).0;
    first = S.in_ring q h;
    filled_to = (F.queues q h).room;
    within = omega (
      arith,
      start_behind t.queues.widths t.queues.depths q (queue_count t) h,
      taken_start t.queues.widths t.queues.depths (queue_count t),
      F.placed_in,
      S.space,
    );
  }

  abbrev used : ℕ → ℕ
  used q = length (messages_of t q)

  module _ (q : ℕ) (low : q < queue_count t) where
    other : (j : ℕ) → (j ≢ q) → (ms : List (List ℕ)) → messages_of (set_messages t q ms) j ≡ messages_of t j
    other j n ms = get_or-set_other t.queues.messages q j ms [] n

    own : (ms : List (List ℕ)) → messages_of (set_messages t q ms) q ≡ ms
    own ms = get_or-set_same t.queues.messages q ms [] (omega (arith, F.message_column))

    -- another queue, where a message was laid at a place of q's ring, or nothing was
    laid_other : (k : ℕ) (m : List ℕ) (ms : List (List ℕ)) (o' : List ℕ) → k ≤ depth_of t q → length m ≡ width_of t q → (j : ℕ) → j < queue_count t → (j ≢ q) → slice_index o' j ≡ slice_index o j
        → messages (laid b (spot (ring q) k) m) (ring_of o' (set_messages t q ms).queues j) ≡ messages_of (set_messages t q ms) j
    laid_other k m ms o' in_ring wide j h n e =
        ap (messages (laid b (spot (ring q) k) m)) (same_ring (ring_of o' (set_messages t q ms).queues j) (ring j) refl refl refl e (ap length (other j n ms)))
        ∙ put_apart b (ring q) k m (sits q low) in_ring wide (ring j) (sits j h) (starts_apart t.queues.widths t.queues.depths q j (ring q) (ring j) (placed o t.queues q) (placed o t.queues j) (λ z. n (sym z)))
        ∙ S.there j h ∙ sym (other j n ms)

    -- a message more, behind the others
    pub stands_put : (m : List ℕ) → length m ≡ width_of t q → used q < depth_of t q
        → Stands o (laid b (spot (ring q) (used q)) m) (set_messages t q (messages_of t q ++ (m ∷ []))).queues
    stands_put m wide room = record {
      oldest_column = S.oldest_column;
      in_ring = S.in_ring;
      there = λ j h. elim (ℕ_discrete j q) [
        | yes e ↦ rw e (ap (messages new) (same_ring (ring_of o (set_messages t q more).queues q) (fuller (ring q)) refl refl refl refl (ap length (own more) ∙ grown))
            ∙ put_appends b (ring q) m (sits q low) room wide ∙ ap (λ l. l ++ (m ∷ [])) (S.there q low) ∙ sym (own more))
        | no n ↦ laid_other (used q) m more o (sits q low).filled_to wide j h n refl
      ];
      space = length_put b (ring q) (used q) m (sits q low) (sits q low).filled_to wide ∙ S.space;
    }
      where
        more : List (List ℕ)
        more = messages_of t q ++ (m ∷ [])

        new : List ℕ
        new = laid b (spot (ring q) (used q)) m

        grown : length more ≡ used q + 1
        grown = omega (arith, length_snoc (messages_of t q) m)

    -- where q's oldest message then stands
    abbrev turn : ℕ
    turn = slot_of (slice_index o q) (depth_of t q) 1

    turned_at : (x : QueueTable) → slice_index (slice_set o q turn) q ≡ turn
    turned_at x = get_or-set_same o q turn 0 (omega (arith, S.oldest_column))

    turned_other : (j : ℕ) → (j ≢ q) → slice_index (slice_set o q turn) j ≡ slice_index o j
    turned_other j n = get_or-set_other o q j turn 0 n

    turned_in : (j : ℕ) → j < queue_count t → slice_index (slice_set o q turn) j < depth_of t j
    turned_in j h = elim (ℕ_discrete j q) [
      | yes e ↦ rw (e, turned_at t.queues) (slot_in (slice_index o q) (depth_of t q) 1 (S.in_ring q low) (omega (arith, S.in_ring q low)))
      | no n ↦ omega (arith, turned_other j n, S.in_ring j h)
    ]

    -- a message less, the oldest
    pub stands_take : (m : List ℕ) (ms : List (List ℕ)) → messages_of t q ≡ m ∷ ms → Stands (slice_set o q turn) b (set_messages t q ms).queues
    stands_take m ms e = record {
      oldest_column = length-set o q turn ∙ S.oldest_column;
      in_ring = turned_in;
      there = λ j h. elim (ℕ_discrete j q) [
        | yes p ↦ rw p (ap (messages b) (same_ring (ring_of (slice_set o q turn) (set_messages t q ms).queues q) (fewer (ring q)) refl refl refl (turned_at t.queues) (ap length (own ms) ∙ shrunk))
            ∙ tail_same _ _ _ _ (sym (take_first b (ring q) (sits q low) (omega (arith, ap length e))) ∙ S.there q low ∙ e) ∙ sym (own ms))
        | no n ↦ ap (messages b) (same_ring (ring_of (slice_set o q turn) (set_messages t q ms).queues j) (ring j) refl refl refl (turned_other j n) (ap length (other j n ms)))
            ∙ S.there j h ∙ sym (other j n ms)
      ];
      space = S.space;
    }
      where
        shrunk : length ms ≡ used q - 1
        shrunk = omega (arith, ap length e)

        tail_same : (x y : List ℕ) (xs ys : List (List ℕ)) → x ∷ xs ≡ y ∷ ys → xs ≡ ys
        tail_same x y xs ys p = ap (drop 1) p

    -- the oldest taken from a full queue, and a new one in its place
    pub stands_swap : (m : List ℕ) (ms : List (List ℕ)) (n : List ℕ) → messages_of t q ≡ m ∷ ms → used q ≡ depth_of t q → length n ≡ width_of t q
        → Stands (slice_set o q turn) (laid b (spot (ring q) 0) n) (set_messages t q (ms ++ (n ∷ []))).queues
    stands_swap m ms n e full wide = record {
      oldest_column = length-set o q turn ∙ S.oldest_column;
      in_ring = turned_in;
      there = λ j h. elim (ℕ_discrete j q) [
        | yes p ↦ rw p (ap (messages new) (same_ring (ring_of (slice_set o q turn) (set_messages t q more).queues q) (turned (ring q)) refl refl refl (turned_at t.queues) (ap length (own more) ∙ same))
            ∙ swap_messages b (ring q) n (sits q low) full wide ∙ ap (λ l. drop 1 l ++ (n ∷ [])) (S.there q low ∙ e) ∙ sym (own more))
        | no z ↦ laid_other 0 n more (slice_set o q turn) (omega arith) wide j h z (turned_other j z)
      ];
      space = length_put b (ring q) 0 n (sits q low) (omega arith) wide ∙ S.space;
    }
      where
        more : List (List ℕ)
        more = ms ++ (n ∷ [])

        new : List ℕ
        new = laid b (spot (ring q) 0) n

        same : length more ≡ used q
        same = omega (arith, length_snoc ms n, ap length e)

  -- a new queue, empty, behind the others
  pub stands_add : (w d : ℕ) (p : Option ℕ) → 1 ≤ d → Stands (o ++ (0 ∷ [])) b (add_queue t w d p).queues
  unfolding filled
  stands_add w d p above = record {
    oldest_column = omega (arith, length_snoc o 0, length_snoc t.queues.owners p, S.oldest_column);
    in_ring = λ q h. elim (ℕ_discrete q (queue_count t)) [
      | yes e ↦ rw (e, get_or_at o 0 [] 0 (queue_count t) S.oldest_column, get_or_at t.queues.depths d [] 0 (queue_count t) F.depth_column) (omega arith)
      | no n ↦ (let l : q < queue_count t = omega (arith, length_snoc t.queues.owners p) in
          rw (snoc_default 0 o q, get_or-append t.queues.depths (d ∷ []) 0 q (omega (arith, F.depth_column))) (S.in_ring q l))
    ];
    there = λ q h. elim (ℕ_discrete q (queue_count t)) [
      | yes e ↦ rw (e, get_or_at t.queues.messages [] [] [] (queue_count t) F.message_column) refl
      | no n ↦ (let l : q < queue_count t = omega (arith, length_snoc t.queues.owners p) in
          ap (messages b) (same_ring (ring_of (o ++ (0 ∷ [])) (add_queue t w d p).queues q) (ring q)
          (start_same _ _ t.queues.widths t.queues.depths q (λ i k. get_or-append t.queues.widths (w ∷ []) 0 i (omega (arith, F.width_column))) (λ i k. get_or-append t.queues.depths (d ∷ []) 0 i (omega (arith, F.depth_column))))
          (get_or-append t.queues.widths (w ∷ []) 0 q (omega (arith, F.width_column)))
          (get_or-append t.queues.depths (d ∷ []) 0 q (omega (arith, F.depth_column)))
          (snoc_default 0 o q)
          (ap length (snoc_default [] t.queues.messages q)))
          ∙ S.there q l ∙ sym (snoc_default [] t.queues.messages q))
    ];
    space = S.space;
  }
