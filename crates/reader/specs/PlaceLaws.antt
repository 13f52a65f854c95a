-- Laws of the lines from a place on.
use Rattle.std.specs.Prelude.{◌≡◌, List, [], ℕ, ◌≤◌, ltb, length, get_or, drop, true, false, zero, suc, ◌-◌, ◌<◌}
use Rattle.std.proofs.Common.{inl, inr, ltb-true, ltb-false, arith, leb-true, leb-false}
use Rattle.text.specs.CutLaws.{up_to_end}
use Rattle.text.specs.Lines.{lf, lines, line_from, next_line}
use Rattle.text.specs.LinesLaws.{lines_next, lines_none}
use Rattle.lists.specs.TestLaws.{which}
use Rattle.reader.specs.Place.{ended_at}

module _ (text : List ℕ) (at : ℕ) where
  -- what the test says
  pub ended_at_end : ended_at text at ≡ true → length text ≤ at
  ended_at_end e = leb-true _ _ e

  pub not_ended : ended_at text at ≡ false → at < length text
  not_ended e = leb-false _ _ e

  -- where no line begins, the line is empty and the place stays
  pub line_ended : length text ≤ at → line_from text at ≡ []
  line_ended h = up_to_end lf text at h

  -- one line, and those behind it; or none
  pub count_next : at < length text → length (lines (drop at text)) ≡ suc (length (lines (drop (next_line text at) text)))
  count_next h = rw (lines_next text at h)

  pub count_none : length text ≤ at → length (lines (drop at text)) ≡ 0
  count_none h = rw (lines_none text at h)

  -- the n-th line from the place on: the one that begins there, one behind it, or none
  pub nth_none : (n : ℕ) → length text ≤ at → get_or (lines (drop at text)) n [] ≡ []
  nth_none n h = rw (lines_none text at h)

  -- the first line from the place on begins there, or is empty
  pub nth_first : get_or (lines (drop at text)) 0 [] ≡ line_from text at
  nth_first = elim (which (ltb at (length text))) [
    | inl e ↦ rw (lines_next text at (ltb-true _ _ e))
    | inr e ↦ rw (lines_none text at (ltb-false _ _ e), line_ended (ltb-false _ _ e))
  ]

  pub nth_behind : (n : ℕ) → 0 < n → at < length text → get_or (lines (drop at text)) n [] ≡ get_or (lines (drop (next_line text at) text)) (n - 1) []
  nth_behind zero h k = absurd (omega arith)
  nth_behind (suc n) h k = let e : suc n - 1 ≡ n = omega arith in rw (lines_next text at k, e)
