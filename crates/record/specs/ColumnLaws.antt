-- Columns of a packed table: what stands at a place, and what one place written makes of them.
use Rattle.std.specs.Prelude.{◌≡◌, ℕ, zero, suc, ◌<◌, ◌≤◌, Bool, true, false, cond, List, [], ◌∷◌, ◌++◌, map, length, get_or, slice_index, slice_index_or, slice_set, refl}
use Rattle.std.proofs.Common.{ap, sym, ◌∙◌, arith, ext_get_or}
use Rattle.std.proofs.Math.Option.{Option, none}
use Rattle.std.proofs.Math.ListN.{get_or-map}
use Rattle.lists.specs.Table.{pad}
use Rattle.lists.specs.TableLaws.{snoc_default, length_snoc, length_pad, get_d_pad}
use Rattle.rules.specs.Sizes.{task_places}
use Rattle.rules.specs.Tables.{Tables, Wait, wait_of}  -- keep

-- the two answers of a test
module _ {A : Type 0} (b : Bool) (x y : A) where
  pub chosen : b ≡ true → cond b x y ≡ x
  chosen e = rw e refl

  pub skipped : b ≡ false → cond b x y ≡ y
  skipped e = rw e refl

module _ (N d : ℕ) where
  -- two padded lists that hold the same at every place
  pub pad_ext : (l k : List ℕ) → length l ≤ N → length k ≤ N → ((i : ℕ) → slice_index_or l i d ≡ slice_index_or k i d) → pad N d l ≡ pad N d k
  pad_ext l k a b h = ext_get_or d (pad N d l) (pad N d k) (length_pad N d l a ∙ sym (length_pad N d k b)) (λ i q. get_d_pad N d l i ∙ h i ∙ sym (get_d_pad N d k i))

  -- a place more that holds what an unused one holds
  pub pad_default : (l : List ℕ) → length l < N → pad N d (l ++ (d ∷ [])) ≡ pad N d l
  pad_default l h = pad_ext (l ++ (d ∷ [])) l (omega (arith, length_snoc l d)) (omega arith) (λ i. snoc_default d l i)

module _ {A B : Type 0} (f : A → B) where
  pub map_set : (l : List A) (i : ℕ) (a : A) → map f (slice_set l i a) ≡ slice_set (map f l) i (f a)
  map_set [] i a = refl
  map_set (x ∷ l) zero a = refl
  map_set (x ∷ l) (suc i) a = ap (f x ∷◌) (map_set l i a)

  pub map_snoc : (l : List A) (a : A) → map f (l ++ (a ∷ [])) ≡ map f l ++ (f a ∷ [])
  map_snoc [] a = refl
  map_snoc (x ∷ l) a = ap (f x ∷◌) (map_snoc l a)

-- a column of codes of waits, read at a place
pub wait_code : (t : Tables) (f : Option Wait → ℕ) (i : ℕ) → f none ≡ 0 → slice_index (pad task_places 0 (map f t.tasks.waits)) i ≡ f (wait_of t i)
wait_code t f i e = get_d_pad task_places 0 (map f t.tasks.waits) i ∙ ap (get_or (map f t.tasks.waits) i) (sym e) ∙ get_or-map f t.tasks.waits i none
