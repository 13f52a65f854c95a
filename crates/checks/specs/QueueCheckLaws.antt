-- The code's own test of queues and held words: of a tidy record, it says the same as the rules' test of the view, whatever words the block has.
use Rattle.std.specs.Prelude.{◌≡◌, List, [], Bool, ℕ, ◌+◌, ◌*◌, ◌/◌, ◌%◌, ◌≤◌, ◌<◌, ltb, get_or}
use Rattle.std.proofs.Math.Path.{refl, ap, sym}
use Rattle.std.proofs.Common.{◌∙◌, arith}
use Rattle.std.proofs.Math.Bool.{true}
use Rattle.std.proofs.Math.Logic.{inl, inr}
use Rattle.std.proofs.Math.Decide.{dec_lt}
use Rattle.std.proofs.Math.Dec.{leb, eqb}
use Rattle.std.proofs.Math.ListN.{length}
use borrow.Author.Tests.{ltb-true, leb-true, lt-ltb, le-ltb, le-leb, eq-eqb}
use Rattle.lists.specs.Test.{◌and◌, ◌or◌, allb}
use Rattle.lists.specs.TestLaws.{and_l, and_r, true_and, or_true, or_r, all_true, true_all, same_test, all_same, all_used}
use Rattle.lists.specs.TableLaws.{get_d_filled}
use Rattle.rules.specs.Sizes.{task_places, max_queues, held_words}
use Rattle.rules.specs.Tables.{task_count, queue_count, words_of, width_of, depth_of, queue_owner_of, messages_of, taken_by, space_taken}
use Rattle.rules.specs.Sound.{is_width, is_depth, messagesb, queueb, queuesb, wordsb, pastb, existsb}
use Rattle.rules.proofs.QueueLaws.{width_range}
use Rattle.rings.specs.Ring.{message, Sits}
use Rattle.rings.proofs.RingLaws.{length_message}
use Rattle.rings.specs.Starts.{start_of, at_most_all, start_in}
use Rattle.rings.proofs.StartsLaws.{start_same, start_behind, at_most_below, at_most_all_lem}
use Rattle.rings.proofs.WordsLaws.{length_words}
use Rattle.record.specs.Record.{ring_at, view_tables}
use Rattle.record.specs.Whole.{whole}
use Rattle.record.specs.SoundRecord.{tidyb, words_tidyb}
use Rattle.record.specs.GoodRecord.{Typed, WordsTyped}
use Rattle.record.specs.TidyLaws.{tasks_fit, queues_fit, used_queue, unused_queue}
use Rattle.record.specs.ViewLaws.{view_tasks_lem, view_queues_lem, view_width, view_depth, view_messages, view_used, view_words, view_queue_owner}
use Rattle.record.specs.StandsLaws.{taken_start}
use Rattle.checks.specs.Checks.{queue_fits, queue_fits_at, queues_in, unused_at}
use Rattle.checks.specs.TableCheckLaws.{exists_id, queue_id, queue_owner_any, past_same}
use Rattle.record.specs.declared.State.{State}  -- keep

-- a test that holds, left out
without : (a c d e : Bool) → a and c and d and true and e ≡ a and c and d and e
unfolding ◌and◌
without a c d e = refl

module _ (k : State) (ws b : List ℕ) (T : Typed k) (tidy : tidyb k ≡ true) where
  -- a test that unused places pass, and that says the same of each place in use as one of the view
  used_queues : (p q : ℕ → Bool) → ((j : ℕ) → k.queues.n ≤ j → j < max_queues → p j ≡ true) → ((j : ℕ) → j < k.queues.n → p j ≡ q j)
      → allb max_queues p ≡ allb (queue_count (view_tables (whole k ws b))) q
  used_queues p q out same = all_used k.queues.n max_queues p (queues_fit k tidy) out ∙ all_same _ _ p q (sym (view_queues_lem k ws b T tidy)) same

  -- the words that the queues take, and those that there are
  in_order_lem : start_in k.queues.width k.queues.depth k.queues.n ≡ start_of k.queues.width k.queues.depth k.queues.n
  in_order_lem = ap (start_of k.queues.width k.queues.depth) most
    where
      most : at_most_all k.queues.n ≡ k.queues.n
      most = elim (dec_lt k.queues.n max_queues) [
        | yes h ↦ at_most_below k.queues.n h
        | no h ↦ (let e : max_queues ≡ k.queues.n = omega (arith, queues_fit k tidy) in at_most_all_lem k.queues.n (omega arith) ∙ e)
      ]

  taken_same : start_in k.queues.width k.queues.depth k.queues.n ≡ space_taken (view_tables (whole k ws b))
  taken_same = in_order_lem
      ∙ start_same k.queues.width k.queues.depth _ _ k.queues.n (λ i h. sym (view_width k ws b T tidy i h)) (λ i h. sym (view_depth k ws b T tidy i h))
      ∙ taken_start _ _ k.queues.n ∙ ap (taken_by _ _) (sym (view_queues_lem k ws b T tidy))

  space_same : (view_tables (whole k ws b)).queues.space ≡ length b
  unfolding view_tables
  space_same = refl

  -- the numbers of a queue that the code looks at, but for where its oldest message stands, which the record's tidiness tells
  abbrev numbers : ℕ → Bool
  numbers q = is_width (width_of (view_tables (whole k ws b)) q) and is_depth (depth_of (view_tables (whole k ws b)) q)
      and existsb (task_count (view_tables (whole k ws b))) (queue_owner_of (view_tables (whole k ws b)) q)
      and leb (length (messages_of (view_tables (whole k ws b)) q)) (depth_of (view_tables (whole k ws b)) q)

  queue_used : (q : ℕ) → q < k.queues.n → queue_fits_at k.queues k.tasks.n q ≡ numbers q
  unfolding queue_fits
  queue_used q h = rw (
    lt-ltb q k.queues.n h,
    exists_id (get_or k.queues.owner q 0) k.tasks.n (queue_id k ws b T tidy q h),
    queue_owner_any k ws b T tidy q (omega (arith, queues_fit k tidy)),
    and_r _ _ (used_queue k tidy q h),
    view_width k ws b T tidy q h,
    view_depth k ws b T tidy q h,
    view_queue_owner k ws b T tidy q,
    view_tasks_lem k ws b T tidy,
    view_used k ws b T tidy q h,
  ) (without _ _ _ _)

  queue_unused : (q : ℕ) → k.queues.n ≤ q → q < max_queues → queue_fits_at k.queues k.tasks.n q ≡ true
  unfolding queue_fits ◌and◌
  queue_unused q h l = let u = unused_queue k tidy q h l in rw (le-ltb q k.queues.n h, u.no_width, u.no_depth, u.no_owner, u.no_oldest, u.no_used) refl

  numbers_same : allb max_queues (queue_fits_at k.queues k.tasks.n) ≡ allb (queue_count (view_tables (whole k ws b))) numbers
  numbers_same = used_queues _ numbers queue_unused queue_used

  -- where the queues' numbers are in range and the block has a place for all of them, each message is as wide as it should be
  module _ (e : queues_in k.queues k.tasks.n (length b) ≡ true) where
    fits : (q : ℕ) → q < k.queues.n → numbers q ≡ true
    unfolding queues_in
    fits q h = all_true (queue_count (view_tables (whole k ws b))) numbers (sym numbers_same ∙ and_l _ _ e) q (omega (arith, view_queues_lem k ws b T tidy))

    placed : start_in k.queues.width k.queues.depth k.queues.n ≤ length b
    unfolding queues_in
    placed = leb-true _ _ (and_r _ _ e)

    sits_in : (q : ℕ) → q < k.queues.n → Sits (length b) (ring_at k.queues q)
    sits_in q h = record {
      some = omega (arith, (width_range (width_of (view_tables (whole k ws b)) q) (and_l _ _ (fits q h))).0, view_width k ws b T tidy q h);
      first = ltb-true _ _ (and_r _ _ (used_queue k tidy q h));
      filled_to = omega (arith, leb-true (length (messages_of (view_tables (whole k ws b)) q)) (depth_of (view_tables (whole k ws b)) q) (and_r _ _ (and_r _ _ (and_r _ _ (fits q h)))), view_used k ws b T tidy q h, view_depth k ws b T tidy q h);
      within = omega (arith, start_behind k.queues.width k.queues.depth q k.queues.n h, placed, in_order_lem);
    }

    wide : (q : ℕ) → q < k.queues.n → (j : ℕ) → j < length (messages_of (view_tables (whole k ws b)) q) → length (get_or (messages_of (view_tables (whole k ws b)) q) j []) ≡ width_of (view_tables (whole k ws b)) q
    wide q h j l = ap (λ ms. length (get_or ms j [])) (view_messages k ws b T tidy q h)
        ∙ ap length (get_d_filled (get_or k.queues.used q 0) (message b (ring_at k.queues q)) [] j (omega (arith, view_used k ws b T tidy q h)))
        ∙ length_message b (ring_at k.queues q) j (sits_in q h) (omega (arith, (sits_in q h).filled_to, view_used k ws b T tidy q h))
        ∙ sym (view_width k ws b T tidy q h)

    pub queues_checked : queuesb (view_tables (whole k ws b)) ≡ true
    unfolding queuesb queueb messagesb
    queues_checked = true_and _ _
        (true_all (queue_count (view_tables (whole k ws b))) _ (λ q l. (let h : q < k.queues.n = omega (arith, view_queues_lem k ws b T tidy) in
        let f = fits q h in
        true_and _ _ (and_l _ _ f) (true_and _ _ (and_l _ _ (and_r _ _ f)) (true_and _ _ (and_r _ _ (and_r _ _ (and_r _ _ f)))
        (true_all (length (messages_of (view_tables (whole k ws b)) q)) _ (λ j i. eq-eqb _ _ (wide q h j i))))))))
        (le-leb (space_taken (view_tables (whole k ws b))) (view_tables (whole k ws b)).queues.space (omega (arith, placed, taken_same, space_same)))

    pub owners_checked : allb (queue_count (view_tables (whole k ws b))) (λ q. existsb (task_count (view_tables (whole k ws b))) (queue_owner_of (view_tables (whole k ws b)) q)) ≡ true
    owners_checked = true_all (queue_count (view_tables (whole k ws b))) _ (λ q l. and_l _ _ (and_r _ _ (and_r _ _ (fits q (omega (arith, view_queues_lem k ws b T tidy))))))

  -- and back
  pub checked_queues : queuesb (view_tables (whole k ws b)) ≡ true
      → allb (queue_count (view_tables (whole k ws b))) (λ q. existsb (task_count (view_tables (whole k ws b))) (queue_owner_of (view_tables (whole k ws b)) q)) ≡ true → queues_in k.queues k.tasks.n (length b) ≡ true
  unfolding queues_in queuesb queueb messagesb
  checked_queues e f = true_and _ _
      (numbers_same ∙ true_all (queue_count (view_tables (whole k ws b))) numbers (λ q l.
      let g = all_true (queue_count (view_tables (whole k ws b))) _ (and_l _ _ e) q l in
      true_and _ _ (and_l _ _ g) (true_and _ _ (and_l _ _ (and_r _ _ g)) (true_and _ _ (all_true (queue_count (view_tables (whole k ws b))) _ f q l) (and_l _ _ (and_r _ _ (and_r _ _ g)))))))
      (ap (λ n. leb n (length b)) taken_same ∙ ap (leb (space_taken (view_tables (whole k ws b)))) (sym space_same) ∙ and_r _ _ e)

  -- held words
  module _ (W : WordsTyped ws) where
    pub words_checked : wordsb (view_tables (whole k ws b)) ≡ true
    unfolding wordsb
    words_checked = true_all (task_count (view_tables (whole k ws b))) _ (λ i l. (let h : i < k.tasks.n = omega (arith, view_tasks_lem k ws b T tidy) in
        eq-eqb _ _ (ap length (view_words k ws b T tidy i h) ∙ length_words ws (held_words * i) held_words (omega (arith, tasks_fit k tidy)))))

    -- in set-up: queues are empty, held words 0
    pub empty_same : allb max_queues (unused_at k.queues.used 0) ≡ allb (queue_count (view_tables (whole k ws b))) (λ q. eqb (length (messages_of (view_tables (whole k ws b)) q)) 0)
    unfolding ◌or◌
    empty_same = used_queues _ _ (λ q h l. or_r (ltb q 0) _ (eq-eqb _ _ (unused_queue k tidy q h l).no_used))
        (λ q h. rw (le-ltb q 0 (omega arith), view_used k ws b T tidy q h) refl)

    pub zero_same : words_tidyb ws k.tasks.n ≡ true → allb (held_words * task_places) (unused_at ws 0) ≡ allb (task_count (view_tables (whole k ws b))) (λ i. pastb 0 (words_of (view_tables (whole k ws b)) i))
    unfolding words_tidyb
    zero_same e = same_test _ _
        (λ u. true_all (task_count (view_tables (whole k ws b))) _ (λ i l. (let h : i < k.tasks.n = omega (arith, view_tasks_lem k ws b T tidy) in
        sym (past_same k ws b T tidy W i 0 h) ∙ true_all held_words _ (λ n m. or_r (ltb n 0) _ (zero_word u (held_words * i + n) (omega (arith, tasks_fit k tidy)))))))
        (λ u. true_all (held_words * task_places) _ (λ j l. or_r (ltb j 0) _ (elim (dec_lt j (held_words * k.tasks.n)) [
          | yes h ↦ held_zero u j h
          | no h ↦ elim (or_true (ltb j (held_words * k.tasks.n)) _ (all_true (held_words * task_places) _ (and_r _ _ e) j l)) [ inl v ↦ absurd (omega (arith, ltb-true j (held_words * k.tasks.n) v)) | inr v ↦ v ]
        ])))
      where
        zero_word : allb (held_words * task_places) (unused_at ws 0) ≡ true → (j : ℕ) → j < held_words * task_places → eqb (get_or ws j 0) 0 ≡ true
        zero_word u j l = elim (or_true (ltb j 0) _ (all_true (held_words * task_places) (unused_at ws 0) u j l)) [ inl v ↦ absurd (omega (arith, ltb-true j 0 v)) | inr v ↦ v ]

        held_zero : allb (task_count (view_tables (whole k ws b))) (λ i. pastb 0 (words_of (view_tables (whole k ws b)) i)) ≡ true → (j : ℕ) → j < held_words * k.tasks.n → eqb (get_or ws j 0) 0 ≡ true
        held_zero u j h =
            let i = j / held_words in
            let m = j % held_words in
            let i_in : i < k.tasks.n = omega arith in
            let past = past_same k ws b T tidy W i 0 i_in ∙ all_true (task_count (view_tables (whole k ws b))) (λ i. pastb 0 (words_of (view_tables (whole k ws b)) i)) u i (omega (arith, view_tasks_lem k ws b T tidy)) in
            let at : held_words * i + m ≡ j = omega arith in
            elim (or_true (ltb m 0) _ (all_true held_words _ past m (omega arith))) [
              | inl v ↦ absurd (omega (arith, ltb-true m 0 v))
              | inr v ↦ rw at at v
            ]
