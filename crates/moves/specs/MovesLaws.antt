-- Laws of what each move leaves: where it fits, the plain form; the lengths stay.
use Rattle.std.specs.Prelude.{◌≡◌, refl, List, false, ℕ, ◌+◌, ◌-◌, ◌*◌, ◌≤◌, length, take, drop}
use Rattle.std.proofs.Common.{ap, sym, ◌∙◌, inl, inr, arith, length-take}
use Rattle.lists.specs.TestLaws.{which}
use Rattle.rings.specs.Words.{words, laid, padded}
use Rattle.rings.specs.Held.{eight, held}
use Rattle.rings.proofs.WordsLaws.{length_words, length_laid, padded_full}
use Rattle.rings.proofs.HeldLaws.{length_held, held_other, held_front}
use Rattle.moves.specs.Fits.{can_hold, can_queue, can_take, can_swap, Holds, Takes, Swaps}
use Rattle.moves.specs.Moves.{hold_words, queue_block, take_words, swap_words, swap_block, words_after, block_after}
use Rattle.moves.specs.FitsLaws.{holds, holds_test, queues, queues_test, takes, takes_test, swaps, swaps_test}
use Rattle.moves.specs.declared.Move.{Move}
use Rattle.moves.specs.declared.Move.TheVariants.{Nothing, Hold, Queue, Take, Swap}

-- a part by its two ends
part : (l : List ℕ) (at n : ℕ) → words at (at + n - at) l ≡ words at n l
part l at n = (let e : at + n - at ≡ n = omega arith in ap (λ (k : ℕ). words at k l) e)

-- for the code: it is no longer than its ends tell
pub part_short : (l : List ℕ) (at n : ℕ) → length (words at (at + n - at) l) ≤ n
part_short l at n = omega (arith, ap length (part l at n), length-take n (drop at l))

module _ (t : List ℕ) (task : ℕ) (m : List ℕ) where
  pub hold_kept : can_hold (length t) task (length m) ≡ false → hold_words t task m ≡ t
  unfolding hold_words
  hold_kept e = rw e

  pub hold_fits : Holds (length t) task (length m) → hold_words t task m ≡ held t task m
  unfolding hold_words
  hold_fits h = rw (holds_test _ _ _ h)

  length_hold : length (hold_words t task m) ≡ length t
  length_hold = elim (which (can_hold (length t) task (length m))) [
    | inl e ↦ (let h = holds _ _ _ e in ap length (hold_fits h) ∙ length_held t task m h.place h.size)
    | inr e ↦ ap length (hold_kept e)
  ]

module _ (b : List ℕ) (place : ℕ) (m : List ℕ) where
  pub queue_kept : can_queue (length b) place (length m) ≡ false → queue_block b place m ≡ b
  unfolding queue_block
  queue_kept e = rw e

  pub queue_fits_lem : place + length m ≤ length b → queue_block b place m ≡ laid b place m
  unfolding queue_block
  queue_fits_lem h = rw (queues_test _ _ _ h)

  -- for the code: a message that needs no zeros
  pub queue_laid : place + length m ≤ length b → laid b place (padded (length m) m) ≡ queue_block b place m
  queue_laid h = ap (laid b place) (padded_full (length m) m refl) ∙ sym (queue_fits_lem h)

  length_queue : length (queue_block b place m) ≡ length b
  length_queue = elim (which (can_queue (length b) place (length m))) [
    | inl e ↦ (let h = queues _ _ _ e in ap length (queue_fits_lem h) ∙ length_laid b place m h)
    | inr e ↦ ap length (queue_kept e)
  ]

-- the table where the task holds a message of the block
module _ (t b : List ℕ) (place width task : ℕ) (fits : Takes (length t) (length b) place width task) where
  size : length (words place width b) ≤ eight
  size = omega (arith, length_words b place width fits.within, fits.room.size)

  length_taken : length (held t task (words place width b)) ≡ length t
  length_taken = length_held t task (words place width b) fits.room.place size

module _ (t b : List ℕ) (place width task : ℕ) where
  pub take_kept : can_take (length t) (length b) place width task ≡ false → take_words t b place width task ≡ t
  unfolding take_words
  take_kept e = rw e

  pub take_fits : Takes (length t) (length b) place width task → take_words t b place width task ≡ held t task (words place width b)
  unfolding take_words
  take_fits h = rw (takes_test _ _ _ _ _ h)

  -- for the code: the message by its two ends
  pub take_laid : Takes (length t) (length b) place width task
      → held t task (words place (place + width - place) b) ≡ take_words t b place width task
  take_laid h = ap (held t task) (part b place width) ∙ sym (take_fits h)

  length_take_words : length (take_words t b place width task) ≡ length t
  length_take_words = elim (which (can_take (length t) (length b) place width task)) [
    | inl e ↦ (let h = takes _ _ _ _ _ e in ap length (take_fits h) ∙ length_taken t b place width task h)
    | inr e ↦ ap length (take_kept e)
  ]

module _ (t b : List ℕ) (place width task sender : ℕ) where
  pub swap_kept : can_swap (length t) (length b) place width task sender ≡ false
      → (swap_words t b place width task sender ≡ t) × (swap_block t b place width task sender ≡ b)
  unfolding swap_words swap_block
  swap_kept e = (rw e, rw e)

  pub swap_words_fits : Swaps (length t) (length b) place width task sender
      → swap_words t b place width task sender ≡ held t task (words place width b)
  unfolding swap_words
  swap_words_fits h = rw (swaps_test _ _ _ _ _ _ h)

  pub swap_block_fits : Swaps (length t) (length b) place width task sender
      → swap_block t b place width task sender ≡ laid b place (words (eight * sender) width (held t task (words place width b)))
  unfolding swap_block
  swap_block_fits h = rw (swaps_test _ _ _ _ _ _ h)

  length_sent : (h : Swaps (length t) (length b) place width task sender)
      → length (words (eight * sender) width (held t task (words place width b))) ≡ width
  length_sent h = length_words (held t task (words place width b)) (eight * sender) width
      (omega (arith, length_taken t b place width task h.taken, h.sent.place, h.sent.size))

  -- for the code: the message and the sender's words by their two ends
  pub swap_words_laid : Swaps (length t) (length b) place width task sender
      → held t task (words place (place + width - place) b) ≡ swap_words t b place width task sender
  swap_words_laid h = ap (held t task) (part b place width) ∙ sym (swap_words_fits h)

  pub sender_fits : Swaps (length t) (length b) place width task sender → (x : List ℕ) → x ≡ held t task (words place (place + width - place) b)
      → eight * sender + width ≤ length x
  sender_fits h x e =
      let l : length x ≡ length t = ap length (e ∙ ap (held t task) (part b place width)) ∙ length_taken t b place width task h.taken in
      omega (arith, h.sent.place, h.sent.size)

  pub swap_block_laid : Swaps (length t) (length b) place width task sender → (x : List ℕ) → x ≡ held t task (words place (place + width - place) b)
      → laid b place (padded width (words (eight * sender) (eight * sender + width - eight * sender) x)) ≡ swap_block t b place width task sender
  swap_block_laid h x e =
      ap (λ (l : List ℕ). laid b place (padded width l)) (part x (eight * sender) width)
      ∙ ap (λ (l : List ℕ). laid b place (padded width (words (eight * sender) width l))) (e ∙ ap (held t task) (part b place width))
      ∙ ap (laid b place) (padded_full width _ (length_sent h))
      ∙ sym (swap_block_fits h)

  -- another task's words are those it held before
  pub swap_block_other : Swaps (length t) (length b) place width task sender → (sender ≡ task → ⊥)
      → swap_block t b place width task sender ≡ laid b place (words (eight * sender) width t)
  swap_block_other h ne =
      let m = words place width b in
      swap_block_fits h
      ∙ ap (laid b place)
      (held_front (held t task m) sender width h.sent.size
      ∙ ap (take width) (held_other t task m h.taken.room.place (size t b place width task h.taken) sender ne)
      ∙ sym (held_front t sender width h.sent.size))

  length_swap_words : length (swap_words t b place width task sender) ≡ length t
  length_swap_words = elim (which (can_swap (length t) (length b) place width task sender)) [
    | inl e ↦ (let h = swaps _ _ _ _ _ _ e in ap length (swap_words_fits h) ∙ length_taken t b place width task h.taken)
    | inr e ↦ ap length (swap_kept e).0
  ]

  length_swap_block : length (swap_block t b place width task sender) ≡ length b
  length_swap_block = elim (which (can_swap (length t) (length b) place width task sender)) [
    | inl e ↦
        let h = swaps _ _ _ _ _ _ e in
        ap length (swap_block_fits h) ∙ length_laid b place _ (omega (arith, length_sent h, h.taken.within))
    | inr e ↦ ap length (swap_kept e).1
  ]

module _ (t m b : List ℕ) where
  pub nothing_moves : (words_after Nothing t m b ≡ t) × (block_after Nothing t m b ≡ b)
  nothing_moves = (refl, refl)

  pub hold_moves : (task : ℕ) → Holds (length t) task (length m)
      → (words_after (Hold task) t m b ≡ held t task m) × (block_after (Hold task) t m b ≡ b)
  hold_moves task h = (hold_fits t task m h, refl)

  pub queue_moves : (place : ℕ) → place + length m ≤ length b
      → (words_after (Queue place) t m b ≡ t) × (block_after (Queue place) t m b ≡ laid b place m)
  queue_moves place h = (refl, queue_fits_lem b place m h)

  pub take_moves : (place width task : ℕ) → Takes (length t) (length b) place width task
      → (words_after (Take place width task) t m b ≡ held t task (words place width b)) × (block_after (Take place width task) t m b ≡ b)
  take_moves place width task h = (take_fits t b place width task h, refl)

  pub swap_moves : (place width task sender : ℕ) → Swaps (length t) (length b) place width task sender → (sender ≡ task → ⊥)
      → (words_after (Swap place width task sender) t m b ≡ held t task (words place width b))
      × (block_after (Swap place width task sender) t m b ≡ laid b place (words (eight * sender) width t))
  swap_moves place width task sender h ne =
      (swap_words_fits t b place width task sender h, swap_block_other t b place width task sender h ne)

  -- for the code: what each move was made by
  pub made_hold : (x : Move) (w : List ℕ) (task : ℕ) → x ≡ Hold task → w ≡ hold_words t task m → (w ≡ words_after x t m b) × (b ≡ block_after x t m b)
  made_hold x w task e f = rw e (f, refl)

  pub made_queue : (x : Move) (c : List ℕ) (place : ℕ) → x ≡ Queue place → c ≡ queue_block b place m
      → (t ≡ words_after x t m b) × (c ≡ block_after x t m b)
  made_queue x c place e f = rw e (refl, f)

  pub made_take : (x : Move) (w : List ℕ) (place width task : ℕ) → x ≡ Take place width task → w ≡ take_words t b place width task
      → (w ≡ words_after x t m b) × (b ≡ block_after x t m b)
  made_take x w place width task e f = rw e (f, refl)

  pub made_swap : (x : Move) (w c : List ℕ) (place width task sender : ℕ) → x ≡ Swap place width task sender
      → (w ≡ swap_words t b place width task sender) × (c ≡ swap_block t b place width task sender)
      → (w ≡ words_after x t m b) × (c ≡ block_after x t m b)
  made_swap x w c place width task sender e f = rw e f

  -- no move changes a length
  pub length_words_after : (x : Move) → length (words_after x t m b) ≡ length t
  length_words_after Nothing = refl
  length_words_after (Hold task) = length_hold t task m
  length_words_after (Queue place) = refl
  length_words_after (Take place width task) = length_take_words t b place width task
  length_words_after (Swap place width task sender) = length_swap_words t b place width task sender

  pub length_block_after : (x : Move) → length (block_after x t m b) ≡ length b
  length_block_after Nothing = refl
  length_block_after (Hold task) = refl
  length_block_after (Queue place) = length_queue b place m
  length_block_after (Take place width task) = refl
  length_block_after (Swap place width task sender) = length_swap_block t b place width task sender
