-- Laws of writing bytes at a place of lent memory.
use Rattle.std.specs.Prelude.{◌≡◌, List, ◌∷◌, ◌++◌, ℕ, suc, ◌+◌, ◌≤◌, ◌<◌, Some, None, get_or, take, drop, set}
use Rattle.std.proofs.Common.{append_assoc, arith, length-take-le, take-suc, take_at}
use Rattle.std.proofs.Math.Logic.{inl, inr}
use Rattle.std.proofs.Math.ListN.{length, length-append, length-drop}
use Rattle.std.proofs.Math.Seq.{append_snoc}
use Rattle.std.proofs.lemmas.List.{set_at}
use borrow.Author.Tests.{le-leb, lt-leb, leb-true}
use Rattle.text.specs.Place.{room, put_answer, put_bytes, laid}
use Rattle.lists.specs.TestLaws.{which}

module _ (l : List ℕ) (at : ℕ) (bs : List ℕ) where
  pub put_next : at + length bs ≤ length l → put_answer l at bs ≡ Some (at + length bs)
  unfolding put_answer
  put_next h = rw (le-leb _ _ h)

  pub put_laid : at + length bs ≤ length l → put_bytes l at bs ≡ laid l at bs
  unfolding put_bytes
  put_laid h = rw (le-leb _ _ h)

  pub put_full : length l < at + length bs → put_answer l at bs ≡ None
  unfolding put_answer
  put_full h = rw (lt-leb _ _ h)

  pub put_kept : length l < at + length bs → put_bytes l at bs ≡ l
  unfolding put_bytes
  put_kept h = rw (lt-leb _ _ h)

-- one byte more in front of t, which stands from place k + 1 on
pub laid_front : (l t r : List ℕ) (k x : ℕ) → k < length l → set (take (suc k) l ++ t ++ r) k x ≡ take k l ++ (x ∷ t) ++ r
laid_front l t r k x h =
    rw (take-suc l k 0 h, append_snoc (take k l) (get_or l k 0) t, append_assoc (take k l) (get_or l k 0 ∷ t) r, append_assoc (take k l) (x ∷ t) r)
    (set_at (take k l) (get_or l k 0) (t ++ r) x k (length-take-le k l (omega arith)))

module _ (l : List ℕ) (at : ℕ) (bs : List ℕ) where
  front_length : at + length bs ≤ length l → length (take at l ++ bs) ≡ at + length bs
  front_length h = omega (arith, length-append (take at l) bs, length-take-le at l (omega arith))

  -- what stands there, with what stands before it
  pub take_laid : at + length bs ≤ length l → take (at + length bs) (laid l at bs) ≡ take at l ++ bs
  take_laid h = take_at (take at l ++ bs) (drop (at + length bs) l) (at + length bs) (front_length h)

  pub length_put : length (put_bytes l at bs) ≡ length l
  unfolding put_bytes
  length_put = elim (which (room l at bs)) [
    | inl e ↦
        let h = leb-true (at + length bs) (length l) e in
        rw e (omega (arith, length-append (take at l ++ bs) (drop (at + length bs) l), front_length h, length-drop (at + length bs) l))
    | inr e ↦ rw e
  ]
