-- Laws of a message put: laid at a place of the ring, and behind the others.
use Rattle.std.specs.Prelude.{◌≡◌, refl, List, [], ◌∷◌, ◌++◌, ℕ, ◌+◌, ◌≤◌, ◌<◌, length, get_or}
use Rattle.std.proofs.Common.{ap, sym, ◌∙◌, inl, inr, arith, add-one}
use Rattle.lists.specs.Table.{filled}
use Rattle.lists.specs.TableLaws.{filled_ext}
use Rattle.rings.specs.Words.{words, laid, Off}
use Rattle.rings.specs.Ring.{Ring, spot, message, messages, Sits, Apart, fuller}
use Rattle.rings.proofs.WordsLaws.{length_laid, laid_same, laid_other, laid_word}
use Rattle.rings.proofs.FilledLaws.{filled_snoc}
use Rattle.rings.proofs.RingLaws.{spot_in, spots_off}

-- a message m laid at the place k of a ring
module _ (b : List ℕ) (r : Ring) (k : ℕ) (m : List ℕ) (sits : Sits (length b) r) (in_ring : k ≤ r.depth) (size : length m ≡ r.width) where
  pub spot_fits : spot r k + length m ≤ length b
  spot_fits = omega (arith, spot_in (length b) r sits k in_ring)

  pub length_put : length (laid b (spot r k) m) ≡ length b
  length_put = length_laid b (spot r k) m spot_fits

  -- no word outside the message's place changes
  pub put_word : (i : ℕ) → Off i 1 (spot r k) r.width → get_or (laid b (spot r k) m) i 0 ≡ get_or b i 0
  put_word i o = laid_word b (spot r k) m spot_fits i (rw size o)

  -- and no part of the block that lies off it
  pub put_words : (a n : ℕ) → Off a n (spot r k) r.width → words a n (laid b (spot r k) m) ≡ words a n b
  put_words a n o = laid_other b (spot r k) m spot_fits a n (rw size o)

  -- a queue whose place has no word of this one's keeps its messages
  pub put_apart : (p : Ring) → Sits (length b) p → Apart r p → messages (laid b (spot r k) m) p ≡ messages b p
  put_apart p t a = filled_ext p.used _ _ (λ i l. put_words (spot p i) p.width (off i (omega (arith, t.filled_to))))
    where
      off : (i : ℕ) → i ≤ p.depth → Off (spot p i) p.width (spot r k) r.width
      off i l = elim a [
        | inl h ↦ inr (omega (arith, spot_in (length b) r sits k in_ring))
        | inr h ↦ inl (omega (arith, spot_in (length b) p t i l))
      ]

-- m laid behind the others
module _ (b : List ℕ) (r : Ring) (m : List ℕ) (sits : Sits (length b) r) (room : r.used < r.depth) (size : length m ≡ r.width) where
  old_stay : filled r.used (message (laid b (spot r r.used) m) r) ≡ messages b r
  old_stay = filled_ext r.used _ _ (λ k l.
      put_words b r r.used m sits sits.filled_to size (spot r k) r.width (spots_off (length b) r sits r.used k room l))

  new_there : message (laid b (spot r r.used) m) r r.used ≡ m
  new_there =
      ap (λ (n : ℕ). words (spot r r.used) n (laid b (spot r r.used) m)) (sym size)
      ∙ laid_same b (spot r r.used) m (spot_fits b r r.used m sits sits.filled_to size)

  -- the queue has one message more, the new one, behind the others
  pub put_appends : messages (laid b (spot r r.used) m) (fuller r) ≡ messages b r ++ (m ∷ [])
  put_appends =
      ap (λ (n : ℕ). filled n (message (laid b (spot r r.used) m) r)) (add-one r.used)
      ∙ filled_snoc r.used (message (laid b (spot r r.used) m) r)
      ∙ rw (old_stay, new_there) refl

-- and sits as before
pub put_sits : (n : ℕ) (r : Ring) → Sits n r → r.used < r.depth → Sits n (fuller r)
put_sits n r sits room =
    record { some = sits.some; first = sits.first; filled_to = omega arith; within = sits.within }
