-- Laws of cutting a text into pieces.
use Rattle.std.specs.Prelude.{◌≡◌, cond, eqb, ltb, get_or, take, drop, Option, Some, None, unwrap_or, option_map}
use Rattle.std.proofs.Math.Path.{refl}
use Rattle.std.proofs.Common.{ap, sym, ◌∙◌, drop_of_length-le, length-drop, drop-drop, take_all, add-one}
use mathlib.Core.List.{List, [], ◌∷◌, ◌++◌}
use Rattle.std.proofs.Math.Logic.{inl, inr}
use Prim.Native.Nat.{ℕ, zero, suc, ◌+◌, ◌≤◌, ◌<◌}
use native.Mathlib.Omega.{arith}
use Rattle.std.proofs.Math.ListN.{length}
use borrow.Author.Tests.{ne_eqb, eqb-true, eqb-false, ltb-false, eq-eqb}
use Rattle.std.specs.List.{position, position_or_len}
use denote.Ref.{Bor}
use Rattle.std.proofs.lemmas.List.Recursion.{is_position_or_len}
use Rattle.text.specs.Cut.{up_to, find_from, Free, on_first, pieces, behind, joined}
use Rattle.lists.specs.TestLaws.{which}
use Rattle.std.proofs.Math.Seq.{drop-cons}

-- what `unwrap_or` reads of a part, or of another in its place
pub part_or : (o : Option (Bor (List ℕ))) (d : Bor (List ℕ)) → (unwrap_or o d).now ≡ unwrap_or (option_map (λ x. x.now) o) d.now
part_or None d = refl
part_or (Some x) d = refl

module _ (b : ℕ) where
  -- one byte at place i
  pub up_to_hit : (l : List ℕ) (i : ℕ) → i < length l → get_or l i 0 ≡ b → up_to b (drop i l) ≡ []
  unfolding up_to
  up_to_hit l i h e = rw (drop-cons l i 0 h, eq-eqb _ _ e)

  pub up_to_miss : (l : List ℕ) (i : ℕ) → i < length l → (get_or l i 0 ≡ b → ⊥) → up_to b (drop i l) ≡ get_or l i 0 ∷ up_to b (drop (i + 1) l)
  unfolding up_to
  up_to_miss l i h e = rw (add-one, drop-cons l i 0 h, ne_eqb _ _ e)

  -- past the end nothing stands
  pub up_to_end : (l : List ℕ) (i : ℕ) → length l ≤ i → up_to b (drop i l) ≡ []
  unfolding up_to
  up_to_end l i h = rw (drop_of_length-le l h)

  pub up_to_most : (l : List ℕ) → length (up_to b l) ≤ length l
  unfolding up_to
  up_to_most [] = omega arith
  up_to_most (c ∷ cs) = elim (which (eqb c b)) [ inl e ↦ rw e (omega arith) | inr e ↦ rw e (omega (arith, up_to_most cs)) ]

  pub up_to_take : (l : List ℕ) → take (length (up_to b l)) l ≡ up_to b l
  unfolding up_to
  up_to_take [] = refl
  up_to_take (c ∷ cs) = elim (which (eqb c b)) [ inl e ↦ rw e | inr e ↦ rw (e, up_to_take cs) ]

  -- in std's words it ends where the first b stands, or else where l ends
  up_to_len : (l : List ℕ) → length (up_to b l) ≡ position_or_len (λ c. eqb c b) l
  unfolding up_to
  up_to_len l = is_position_or_len (λ (l : List ℕ). length (up_to b l)) (λ c. eqb c b) refl more l where
    more : (c : ℕ) (cs : List ℕ) → length (up_to b (c ∷ cs)) ≡ cond (eqb c b) 0 (1 + length (up_to b cs))
    more c cs = elim (which (eqb c b)) [ inl e ↦ rw e | inr e ↦ rw e (omega arith) ]

  pub up_to_first : (l : List ℕ) → unwrap_or (position (λ c. eqb c b) l) (length l) ≡ length (up_to b l)
  up_to_first l = elim (which (ltb (length (up_to b l)) (length l))) [
    | inl e ↦ rw (← up_to_len l, e)
    | inr e ↦ rw (← up_to_len l, e) (omega (arith, ltb-false _ _ e, up_to_most l))
  ]

  -- a text with a b, and one with none
  up_to_split : (l : List ℕ) → length (up_to b l) < length l → l ≡ up_to b l ++ b ∷ drop (suc (length (up_to b l))) l
  unfolding up_to
  up_to_split [] h = absurd (omega arith)
  up_to_split (c ∷ cs) h = elim (which (eqb c b)) [
    | inl e ↦ rw (e, eqb-true c b e)
    | inr e ↦ let k : length (up_to b cs) < length cs = (let g = rw e at h in omega arith) in rw e (ap (λ (l : List ℕ). c ∷ l) (up_to_split cs k))
  ]

  module _ (l : List ℕ) (at : ℕ) where
    pub find_split : find_from b l at < length l → drop at l ≡ up_to b (drop at l) ++ b ∷ drop (find_from b l at + 1) l
    find_split h =
        let n = length (up_to b (drop at l)) in
        let e : at + n + 1 ≡ at + suc n = omega arith in
        up_to_split (drop at l) (omega (arith, length-drop at l)) ∙ rw (drop-drop (suc n) at l, e)

    pub find_whole : length l ≤ find_from b l at → up_to b (drop at l) ≡ drop at l
    find_whole h = sym (up_to_take (drop at l)) ∙ take_all (length (up_to b (drop at l))) (drop at l) (omega (arith, length-drop at l))

  module _ (last : List (List ℕ)) where
    -- a piece that a b ends, and the rest behind that b
    pub pieces_cut : (l : List ℕ) → length (up_to b l) < length l → pieces b last l ≡ up_to b l ∷ pieces b last (drop (suc (length (up_to b l))) l)
    unfolding up_to pieces
    pieces_cut [] h = absurd (omega arith)
    pieces_cut (c ∷ cs) h = elim (which (eqb c b)) [
      | inl e ↦ rw e
      | inr e ↦ let k : length (up_to b cs) < length cs = (let g = rw e at h in omega arith) in rw (e, pieces_cut cs k)
    ]

    -- a text with no b, where its last byte makes one piece of `last`
    pub pieces_one : ((c : ℕ) → on_first c last ≡ (c ∷ []) ∷ []) → (l : List ℕ) → 0 < length l → length l ≤ length (up_to b l) → pieces b last l ≡ up_to b l ∷ []
    unfolding up_to pieces
    pieces_one one [] p h = absurd (omega arith)
    pieces_one one (c ∷ []) p h = elim (which (eqb c b)) [
      | inl e ↦ absurd (let g = rw e at h in omega arith)
      | inr e ↦ rw e (one c)
    ]
    pieces_one one (c ∷ d ∷ ds) p h = elim (which (eqb c b)) [
      | inl e ↦ absurd (let g = rw e at h in omega arith)
      | inr e ↦ let g = rw e at h in rw (e, pieces_one one (d ∷ ds) (omega arith) (omega arith))
    ]

    -- the same for the text from a place on
    module _ (l : List ℕ) (at : ℕ) where
      pub pieces_next : find_from b l at < length l → pieces b last (drop at l) ≡ up_to b (drop at l) ∷ pieces b last (drop (find_from b l at + 1) l)
      pieces_next h =
          let n = length (up_to b (drop at l)) in
          let e : at + n + 1 ≡ at + suc n = omega arith in
          pieces_cut (drop at l) (omega (arith, length-drop at l)) ∙ rw (drop-drop (suc n) at l, e)

      pub pieces_last : ((c : ℕ) → on_first c last ≡ (c ∷ []) ∷ []) → at < length l → length l ≤ find_from b l at → pieces b last (drop at l) ≡ up_to b (drop at l) ∷ []
      pieces_last one k h = pieces_one one (drop at l) (omega (arith, length-drop at l)) (omega (arith, length-drop at l))

  joined_first : (c : ℕ) (ps : List (List ℕ)) → joined b (on_first c ps) ≡ c ∷ joined b ps
  unfolding joined behind
  joined_first c [] = refl
  joined_first c (p ∷ ps) = refl

  joined_more : (ps : List (List ℕ)) → 0 < length ps → joined b ([] ∷ ps) ≡ b ∷ joined b ps
  unfolding joined behind
  joined_more [] h = absurd (omega arith)
  joined_more (p ∷ ps) h = refl

  -- a byte more in front of the text is a byte more in front of the joined pieces
  pub joined_pieces : (last : List (List ℕ)) (c : ℕ) (cs : List ℕ) → 0 < length (pieces b last cs) → joined b (pieces b last (c ∷ cs)) ≡ c ∷ joined b (pieces b last cs)
  unfolding pieces
  joined_pieces last c cs h = elim (which (eqb c b)) [
    | inl e ↦ rw (e, joined_more (pieces b last cs) h, eqb-true c b e)
    | inr e ↦ rw (e, joined_first c (pieces b last cs))
  ]

  first_some : (c : ℕ) (ps : List (List ℕ)) → 0 < length (on_first c ps)
  first_some c [] = omega arith
  first_some c (p ∷ ps) = omega arith

  pub pieces_some : (last : List (List ℕ)) (c : ℕ) (cs : List ℕ) → 0 < length (pieces b last (c ∷ cs))
  unfolding pieces
  pieces_some last c cs = elim (which (eqb c b)) [ inl e ↦ rw e (omega arith) | inr e ↦ rw e (first_some c (pieces b last cs)) ]

  -- no piece holds a b
  abbrev AllFree : List (List ℕ) → Type 0
  AllFree ps = (n : ℕ) → Free b (get_or ps n [])

  first_free : (c : ℕ) → (c ≡ b → ⊥) → (ps : List (List ℕ)) → AllFree ps → AllFree (on_first c ps)
  unfolding up_to
  first_free c e [] h zero = rw (ne_eqb c b e)
  first_free c e [] h (suc n) = refl
  first_free c e (p ∷ ps) h zero = rw (ne_eqb c b e, h 0)
  first_free c e (p ∷ ps) h (suc n) = h (suc n)

  more_free : (ps : List (List ℕ)) → AllFree ps → AllFree ([] ∷ ps)
  unfolding up_to
  more_free ps h zero = refl
  more_free ps h (suc n) = h n

  pub pieces_free : (last : List (List ℕ)) → AllFree last → (l : List ℕ) → AllFree (pieces b last l)
  unfolding pieces
  pieces_free last h [] = h
  pieces_free last h (c ∷ cs) = elim (which (eqb c b)) [
    | inl e ↦ rw e (more_free (pieces b last cs) (pieces_free last h cs))
    | inr e ↦ rw e (first_free c (eqb-false c b e) (pieces b last cs) (pieces_free last h cs))
  ]
