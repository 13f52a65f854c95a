-- Laws of tables: what stands at a place after a table grew or was changed by places.
use Rattle.std.specs.Prelude.{◌≡◌, get_or, set, take, drop, replicate}
use Rattle.std.proofs.Math.Path.{refl, ap, sym}
use Rattle.std.proofs.Common.{◌∙◌, length-append, drop_of_length-le, length-take-le, drop-cons, get_or-take, ext_get_or}
use mathlib.Core.List.{List, [], ◌∷◌, ◌++◌, map, append_assoc, append-nil}
use Prim.Native.Nat.{ℕ, zero, suc, ◌-◌, ◌≤◌, ◌<◌}
use native.Mathlib.Omega.{arith}
use Rattle.std.proofs.Math.Decide.{ℕ_discrete, dec_lt}
use Rattle.std.proofs.Math.ListN.{length, length-set, get_or-eq_default, get_or-append}
use Rattle.std.proofs.lemmas.List.{length-replicate, set-append_left, get_or_at}
use Rattle.std.proofs.Math.Seq.{append_snoc, get_or-append_seam, set-append_seam, set_at, take_at}
use Rattle.lists.specs.Table.{edit, pad, filled}

module _ {A : Type 0} where
  -- an empty table holds nothing at any place
  pub get_d_fill : (d : A) (k i : ℕ) → get_or (replicate k d) i d ≡ d
  get_d_fill d zero i = refl
  get_d_fill d (suc k) zero = refl
  get_d_fill d (suc k) (suc i) = get_d_fill d k i

  get_d_tail : (d : A) (k : ℕ) (l : List A) (i : ℕ) → get_or (l ++ replicate k d) i d ≡ get_or l i d
  get_d_tail d k [] i = get_d_fill d k i
  get_d_tail d k (x ∷ l) zero = refl
  get_d_tail d k (x ∷ l) (suc i) = get_d_tail d k l i

  -- what stands at a place, whatever stands for no place
  pub read_any : (l : List A) (i : ℕ) (d e : A) → i < length l → get_or l i d ≡ get_or l i e
  read_any [] i d e h = absurd (omega arith)
  read_any (x ∷ l) zero d e h = refl
  read_any (x ∷ l) (suc i) d e h = read_any l i d e (omega arith)

  pub snoc_default : (d : A) (l : List A) (i : ℕ) → get_or (l ++ (d ∷ [])) i d ≡ get_or l i d
  snoc_default d l i = get_d_tail d 1 l i

  -- the new place
  pub snoc_last : (x d : A) (l : List A) → get_or (l ++ (x ∷ [])) (length l) d ≡ x
  snoc_last x d l = get_or-append_seam l x [] d

  pub length_snoc : (l : List A) (x : A) → length (l ++ (x ∷ [])) ≡ suc (length l)
  length_snoc l x = omega (arith, length-append l (x ∷ []))

  pub length_edit : (f : ℕ → A → A) (l : List A) → length (edit f l) ≡ length l
  unfolding edit
  length_edit f [] = refl
  length_edit f (x ∷ l) = ap suc (length_edit (λ i. f (suc i)) l)

  pub get_d_edit : (f : ℕ → A → A) (d : A) (l : List A) (i : ℕ) → i < length l → get_or (edit f l) i d ≡ f i (get_or l i d)
  unfolding edit
  get_d_edit f d [] i h = absurd (omega arith)
  get_d_edit f d (x ∷ l) zero h = refl
  get_d_edit f d (x ∷ l) (suc i) h = get_d_edit (λ j. f (suc j)) d l i (omega arith)

  -- a change that keeps the default d can be read at every place
  pub get_d_edit_default : (f : ℕ → A → A) (d : A) (l : List A) (i : ℕ) → ((j : ℕ) → f j d ≡ d) → get_or (edit f l) i d ≡ f i (get_or l i d)
  unfolding edit
  get_d_edit_default f d [] i h = sym (h i)
  get_d_edit_default f d (x ∷ l) zero h = refl
  get_d_edit_default f d (x ∷ l) (suc i) h = get_d_edit_default (λ j. f (suc j)) d l i (λ j. h (suc j))

  pub length_filled : (n : ℕ) (f : ℕ → A) → length (filled n f) ≡ n
  unfolding filled
  length_filled zero f = refl
  length_filled (suc n) f = length_snoc (filled n f) (f n) ∙ ap suc (length_filled n f)

  pub get_d_filled : (n : ℕ) (f : ℕ → A) (d : A) (i : ℕ) → i < n → get_or (filled n f) i d ≡ f i
  unfolding filled
  get_d_filled zero f d i h = absurd (omega arith)
  get_d_filled (suc n) f d i h = elim (ℕ_discrete i n) [
    | yes e ↦ rw e (get_or_at (filled n f) (f n) [] d n (length_filled n f))
    | no q ↦ get_or-append (filled n f) (f n ∷ []) d i (omega (arith, length_filled n f)) ∙ get_d_filled n f d i (omega arith)
  ]

  -- one more place written
  pub fill_step : (n : ℕ) (f : ℕ → A) (l : List A) → n < length l → set (filled n f ++ drop n l) n (f n) ≡ filled (suc n) f ++ drop (suc n) l
  unfolding filled
  fill_step n f l h =
      rw (drop-cons l n (f n) h, set_at (filled n f) (get_or l n (f n)) (drop (suc n) l) (f n) n (length_filled n f), append_assoc (filled n f) (f n ∷ []) (drop (suc n) l)) refl

  pub fill_end : (n : ℕ) (f : ℕ → A) (l : List A) → length l ≡ n → filled n f ++ drop n l ≡ filled n f
  fill_end n f l e = rw (drop_of_length-le l {i = n} (omega (arith, e)), append-nil (filled n f)) refl

  -- two functions that agree below n
  pub filled_ext : (n : ℕ) (f g : ℕ → A) → ((i : ℕ) → i < n → f i ≡ g i) → filled n f ≡ filled n g
  unfolding filled
  filled_ext zero f g h = refl
  filled_ext (suc n) f g h = rw (filled_ext n f g (λ i k. h i (omega arith)), h n (omega arith)) refl

  -- a table filled with what stands at each place of l is l
  pub filled_is : (n : ℕ) (f : ℕ → A) (d : A) (l : List A) → length l ≡ n → ((i : ℕ) → i < n → f i ≡ get_or l i d) → filled n f ≡ l
  filled_is n f d l e h = ext_get_or d (filled n f) l (length_filled n f ∙ sym e) (λ i k.
      let q : i < n = omega (arith, length_filled n f) in get_d_filled n f d i q ∙ h i q)

  pub map_filled : {B : Type 0} (g : A → B) (n : ℕ) (f : ℕ → A) → map g (filled n f) ≡ filled n (λ i. g (f i))
  unfolding filled
  map_filled g zero f = refl
  map_filled g (suc n) f = snoc (filled n f) ∙ ap (λ l. l ++ (g (f n) ∷ [])) (map_filled g n f)
    where
      snoc : (l : List A) → map g (l ++ (f n ∷ [])) ≡ map g l ++ (g (f n) ∷ [])
      snoc [] = refl
      snoc (x ∷ l) = ap (g x ∷◌) (snoc l)

  -- tables of N places whose first ones are used
  module _ (N : ℕ) (d : A) where
    pub take_pad : (n : ℕ) (l : List A) → length l ≡ n → take n (pad N d l) ≡ l
    unfolding pad
    take_pad n l h = take_at l _ n h

    pub length_pad : (l : List A) → length l ≤ N → length (pad N d l) ≡ N
    unfolding pad
    length_pad l h = simp (length-append, length-replicate) (omega arith)

    pub pad_set : (l : List A) (i : ℕ) (v : A) → i < length l → set (pad N d l) i v ≡ pad N d (set l i v)
    unfolding pad
    pad_set l i v h = rw length-set (set-append_left l (replicate (N - length l) d) i v h)

    pub pad_snoc : (l : List A) (v : A) → length l < N → set (pad N d l) (length l) v ≡ pad N d (l ++ (v ∷ []))
    unfolding pad
    pad_snoc l v h = rw (length_snoc l v, append_snoc, less) (set-append_seam l d (replicate (N - suc (length l)) d) v)
      where
        less : N - length l ≡ suc (N - suc (length l))
        less = omega arith

    -- a reader that goes by the place need not know how many places are used
    pub get_d_pad : (l : List A) (i : ℕ) → get_or (pad N d l) i d ≡ get_or l i d
    unfolding pad
    get_d_pad l i = get_d_tail d (N - length l) l i

    -- the table that reads as a does, place by place, is a
    pub pad_is : (l a : List A) → length l ≤ N → length a ≡ N → ((i : ℕ) → i < N → get_or l i d ≡ get_or a i d) → pad N d l ≡ a
    pad_is l a h e r = ext_get_or d (pad N d l) a (length_pad l h ∙ sym e) (λ i k. get_d_pad l i ∙ r i (omega (arith, length_pad l h)))

    pub pad_filled : (n : ℕ) (f : ℕ → A) (a : List A) → n ≤ N → length a ≡ N → ((i : ℕ) → i < n → f i ≡ get_or a i d)
        → ((i : ℕ) → n ≤ i → i < N → get_or a i d ≡ d) → pad N d (filled n f) ≡ a
    pad_filled n f a h e u v = pad_is (filled n f) a (omega (arith, length_filled n f)) e (λ i k. elim (dec_lt i n) [
      | yes q ↦ get_d_filled n f d i q ∙ u i q
      | no q ↦ (let b : length (filled n f) ≤ i = omega (arith, length_filled n f) in get_or-eq_default (filled n f) d b ∙ sym (v i (omega arith) k))
    ])

    -- a table behind whose first n places nothing stands is those n places, padded
    pub pad_take : (n : ℕ) (a : List A) → n ≤ N → length a ≡ N → ((i : ℕ) → n ≤ i → i < N → get_or a i d ≡ d) → pad N d (take n a) ≡ a
    pad_take n a h e v = pad_is (take n a) a (omega (arith, m)) e (λ i k. elim (dec_lt i n) [
      | yes q ↦ get_or-take n a i d q
      | no q ↦ (let b : length (take n a) ≤ i = omega (arith, m) in get_or-eq_default (take n a) d b ∙ sym (v i (omega arith) k))
    ])
      where
        m : length (take n a) ≡ n
        m = length-take-le n a (omega arith)
