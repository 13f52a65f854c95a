-- Queues of the packed tables, made and changed, and what is read of them.
use Rattle.std.specs.Prelude.{◌≡◌, cond, ℕ, ◌+◌, ◌≤◌, ◌<◌, ltb, get_or}
use Rattle.std.proofs.Math.Path.{refl, ap}
use Rattle.std.proofs.Common.{sym, ◌∙◌, inl, inr, length-append, lt-ltb, ltb-false}
use mathlib.Core.List.{List, [], ◌∷◌, ◌++◌, map}
use Rattle.std.proofs.Math.Option.{Option}
use native.Mathlib.Omega.{arith}
use Rattle.std.proofs.Math.Decide.{dec_lt}
use Rattle.std.proofs.Math.ListN.{length, set, length-map}
use Rattle.std.proofs.Math.Seq.{map-set_same}
use Rattle.lists.specs.TestLaws.{which}
use Rattle.lists.specs.Table.{pad}
use Rattle.lists.specs.TableLaws.{pad_set, pad_snoc, get_d_pad}
use Rattle.rules.specs.Sizes.{max_queues}
use Rattle.rules.specs.Tables.{Tables, queue_count, messages_of, space_taken}
use Rattle.rules.specs.Effect.{set_messages, add_queue}
use Rattle.rules.specs.Invariant.{Facts}
use Rattle.task_lists.specs.TaskList.{no_id, id_of}
use Rattle.rings.specs.Ring.{slot_of, spot}
use Rattle.rings.specs.Starts.{start_of, start_in}
use Rattle.rings.proofs.StartsLaws.{start_same, at_most_below, at_most_all_lem}
use Rattle.record.specs.Record.{pack_queues}
use Rattle.record.specs.Layout.{ring_of}
use Rattle.record.specs.ReadLaws.{width_read, depth_read, oldest_read}
use Rattle.record.specs.StandsLaws.{taken_start}
use Rattle.record.specs.ColumnLaws.{chosen, pad_default, map_set, map_snoc}
use Rattle.record.specs.PackLaws.{same_queues}
use Rattle.machine.specs.Machine.{queue_added, used_set, oldest_set, place_at, next_oldest}

-- the ring place behind one of the ring
next_slot : (oldest depth : ℕ) → oldest < depth → cond (ltb (oldest + 1) depth) (oldest + 1) 0 ≡ slot_of oldest depth 1
unfolding slot_of
next_slot oldest depth h = elim (which (ltb (oldest + 1) depth)) [
  | inl e ↦ rw e refl
  | inr e ↦ rw e (omega (arith, ltb-false (oldest + 1) depth e))
]

module _ (t : Tables) (F : Facts t) (o : List ℕ) where
  -- the first word behind the first n queues
  start_packed : (n : ℕ) → n ≤ max_queues → start_in (pack_queues o t.queues).width (pack_queues o t.queues).depth n ≡ start_of t.queues.widths t.queues.depths n
  unfolding pack_queues
  start_packed n h = elim (dec_lt n max_queues) [
    | yes k ↦ ap (start_of _ _) (at_most_below n k) ∙ same
    | no k ↦ (let e : max_queues ≡ n = omega arith in ap (start_of _ _) (at_most_all_lem n (omega arith) ∙ e) ∙ same)
  ]
    where
      same : start_of (pad max_queues 0 t.queues.widths) (pad max_queues 0 t.queues.depths) n ≡ start_of t.queues.widths t.queues.depths n
      same = start_same _ _ t.queues.widths t.queues.depths n (λ i l. get_d_pad max_queues 0 t.queues.widths i) (λ i l. get_d_pad max_queues 0 t.queues.depths i)

  pub taken_packed : start_in (pack_queues o t.queues).width (pack_queues o t.queues).depth (pack_queues o t.queues).n ≡ space_taken t
  unfolding pack_queues
  taken_packed = start_packed (queue_count t) F.few_queues ∙ taken_start t.queues.widths t.queues.depths (queue_count t)

  -- the place of a message
  pub place_packed : (q k : ℕ) → q < queue_count t → place_at (pack_queues o t.queues) q k ≡ spot (ring_of o t.queues q) k
  place_packed q k h = rw (start_packed q (omega (arith, F.few_queues)), width_read t o q, oldest_read t o q, depth_read t o q) refl

  pub next_packed : (q : ℕ) → get_or o q 0 < get_or t.queues.depths q 0 → next_oldest (pack_queues o t.queues) q ≡ slot_of (get_or o q 0) (get_or t.queues.depths q 0) 1
  next_packed q in_ring = rw (oldest_read t o q, depth_read t o q) (next_slot (get_or o q 0) (get_or t.queues.depths q 0) in_ring)

  -- a queue gets other messages
  pub used_set_lem : (q : ℕ) (ms : List (List ℕ)) → q < queue_count t → used_set (pack_queues o t.queues) q (length ms) ≡ pack_queues o (set_messages t q ms).queues
  unfolding used_set pack_queues
  used_set_lem q ms h = chosen _ _ _ (lt-ltb q max_queues (omega (arith, F.few_queues)))
      ∙ same_queues _ _ refl refl refl refl
      (pad_set max_queues 0 (map length t.queues.messages) q (length ms) (omega (arith, length-map t.queues.messages length, F.message_column)) ∙ ap (pad max_queues 0) (sym (map_set length t.queues.messages q ms)))
      refl

  -- as many as before
  pub used_same : (q : ℕ) (ms : List (List ℕ)) → length ms ≡ length (messages_of t q) → pack_queues o t.queues ≡ pack_queues o (set_messages t q ms).queues
  unfolding pack_queues
  used_same q ms e = same_queues _ _ refl refl refl refl (ap (pad max_queues 0) (sym (map-set_same length t.queues.messages q ms [] e))) refl

  -- its oldest message stands elsewhere
  pub oldest_set_lem : (q v : ℕ) → q < queue_count t → q < length o → oldest_set (pack_queues o t.queues) q v ≡ pack_queues (set o q v) t.queues
  unfolding oldest_set pack_queues
  oldest_set_lem q v h l = chosen _ _ _ (lt-ltb q max_queues (omega (arith, F.few_queues)))
      ∙ same_queues _ _ refl refl refl (pad_set max_queues 0 o q v l) refl refl

  -- a new one, empty
  pub queue_added_lem : (w d : ℕ) (p : Option ℕ) → queue_count t < max_queues → length o ≡ queue_count t → queue_added (pack_queues o t.queues) w d (id_of p) ≡ pack_queues (o ++ (0 ∷ [])) (add_queue t w d p).queues
  unfolding queue_added pack_queues
  queue_added_lem w d p h e = chosen _ _ _ (lt-ltb (queue_count t) max_queues h)
      ∙ same_queues _ _
      (ap (λ i. set (pad max_queues 0 t.queues.widths) i w) (sym F.width_column) ∙ pad_snoc max_queues 0 t.queues.widths w (omega (arith, F.width_column)))
      (ap (λ i. set (pad max_queues 0 t.queues.depths) i d) (sym F.depth_column) ∙ pad_snoc max_queues 0 t.queues.depths d (omega (arith, F.depth_column)))
      (ap (λ i. set (pad max_queues no_id (map id_of t.queues.owners)) i (id_of p)) (sym (length-map t.queues.owners id_of))
      ∙ pad_snoc max_queues no_id (map id_of t.queues.owners) (id_of p) (omega (arith, length-map t.queues.owners id_of)) ∙ ap (pad max_queues no_id) (sym (map_snoc id_of t.queues.owners p)))
      (sym (pad_default max_queues 0 o (omega arith)))
      (sym (ap (pad max_queues 0) (map_snoc length t.queues.messages []) ∙ pad_default max_queues 0 (map length t.queues.messages) (omega (arith, length-map t.queues.messages length, F.message_column))))
      (sym (length-append t.queues.owners (p ∷ [])))
