-- Laws of a text's lines.
use Rattle.std.specs.Prelude.{◌≡◌, refl, ℕ, suc, ◌+◌, ◌≤◌, ◌<◌, eqb, ltb, length, get_or, drop}
use Rattle.std.proofs.Common.{ap, arith}
use mathlib.Core.List.{List, [], ◌∷◌, ◌++◌}
use Rattle.std.proofs.Math.Logic.{inl, inr}
use Rattle.std.proofs.Math.ListN.{drop_of_length-le}
use borrow.Author.Tests.{lt-ltb, le-ltb, ltb-true, ltb-false, eqb-true}
use Rattle.text.specs.Cut.{up_to, Free, on_first, pieces, behind, joined}
use Rattle.text.specs.CutLaws.{pieces_next, pieces_last, joined_pieces, pieces_some, pieces_free}
use Rattle.text.specs.Lines.{lf, lines, final_lf, line_from, line_end, next_line}
use Rattle.lists.specs.TestLaws.{which}

-- cutting gives back the text
pub lines_text : (text : List ℕ) → joined lf (lines text) ++ final_lf text ≡ text
unfolding lines pieces joined behind final_lf
lines_text [] = refl
lines_text (c ∷ []) = elim (which (eqb c lf)) [ inl e ↦ rw (e, eqb-true c lf e) | inr e ↦ rw e ]
lines_text (c ∷ d ∷ ds) =
    rw (joined_pieces lf [] c (d ∷ ds) (pieces_some lf [] d ds)) (ap (λ (l : List ℕ). c ∷ l) (lines_text (d ∷ ds)))

-- and no line holds an LF
pub lines_free : (text : List ℕ) (n : ℕ) → Free lf (get_or (lines text) n [])
unfolding lines up_to
lines_free text n = pieces_free lf [] (λ k. refl) text n

-- there are at most as many as the text has bytes
first_most : (c n : ℕ) (ps : List (List ℕ)) → length ps ≤ n → length (on_first c ps) ≤ suc n
first_most c n [] h = omega arith
first_most c n (p ∷ ps) h = omega arith

pub lines_most : (text : List ℕ) → length (lines text) ≤ length text
unfolding lines pieces
lines_most [] = omega arith
lines_most (c ∷ cs) = elim (which (eqb c lf)) [
  | inl e ↦ rw e (omega (arith, lines_most cs))
  | inr e ↦ rw e (first_most c (length cs) (pieces lf [] cs) (lines_most cs))
]

-- the line that begins at a place, and those from the next one on
module _ (text : List ℕ) (at : ℕ) where
  pub next_cut : line_end text at < length text → next_line text at ≡ line_end text at + 1
  unfolding next_line
  next_cut h = rw (lt-ltb _ _ h)

  pub next_end : length text ≤ line_end text at → next_line text at ≡ line_end text at
  unfolding next_line
  next_end h = rw (le-ltb _ _ h)

  -- which begins further on
  pub next_on : at < length text → at < next_line text at
  next_on h = elim (which (ltb (line_end text at) (length text))) [
    | inl e ↦ omega (arith, next_cut (ltb-true _ _ e))
    | inr e ↦ let k = ltb-false (line_end text at) (length text) e in omega (arith, next_end k)
  ]

  pub lines_next : at < length text → lines (drop at text) ≡ line_from text at ∷ lines (drop (next_line text at) text)
  unfolding lines pieces
  lines_next k = elim (which (ltb (line_end text at) (length text))) [
    | inl e ↦ rw (next_cut (ltb-true _ _ e)) (pieces_next lf [] text at (ltb-true _ _ e))
    | inr e ↦
        let h = ltb-false _ _ e in
        rw (next_end h, drop_of_length-le text h) (pieces_last lf [] text at (λ c. refl) k h)
  ]

  -- nothing begins at the end
  pub lines_none : length text ≤ at → lines (drop at text) ≡ []
  unfolding lines pieces
  lines_none h = rw (drop_of_length-le text h)
