-- What a line is while its numbers are read: what its name makes of the numbers so far and those of the fields that are left.
use Rattle.std.specs.Prelude.{◌≡◌, refl, ℕ, ◌+◌, ◌≤◌, ◌<◌, ltb, length, drop, Option as Parsed, Some, None}
use Rattle.std.proofs.Math.Path.{ap}
use Rattle.std.proofs.Common.{sym, ◌∙◌, inl, inr, arith, length-append, length-drop, le-leb, le-ltb, lt-ltb, ltb-true, ltb-false}
use mathlib.Core.List.{List, [], ◌∷◌, ◌++◌, append-nil}
use Rattle.std.proofs.Math.Option.{Option, none, some}
use Rattle.std.proofs.Math.Seq.{append_snoc}
use Rattle.std.proofs.lemmas.Bool.{lt-leb}
use Rattle.lists.specs.TestLaws.{which}
use Rattle.text.specs.Cut.{up_to, find_from}
use Rattle.text.specs.CutLaws.{up_to_most}
use Rattle.text.specs.Fields.{tab, fields, field_at}
use Rattle.text.specs.FieldsLaws.{fields_next, fields_last, field_first}
use Rattle.decimal.specs.Parse.{parsed}
use Rattle.words.specs.Form.{longest, most_numbers, words, made_by, with_number, numbers_of, made_from, step_in, step_on}
use Rattle.syntax.specs.Unread.{unread, behind_these, made_with}
use Rattle.syntax.specs.WrittenLaws.{made_many}

-- the field that begins at a place, and those that are left where it ends
fields_from : (line : List ℕ) (at : ℕ) → fields (drop at line) ≡ up_to tab (drop at line) ∷ unread line (find_from tab line at)
unfolding unread
fields_from line at = elim (which (ltb (find_from tab line at) (length line))) [
  | inl e ↦ rw e (fields_next line at (ltb-true _ _ e))
  | inr e ↦ rw e (fields_last line at (ltb-false _ _ e))
]

unread_tab : (line : List ℕ) (at : ℕ) → at < length line → unread line at ≡ fields (drop (at + 1) line)
unfolding unread
unread_tab line at h = rw (lt-ltb _ _ h)

unread_next : (line : List ℕ) (at : ℕ) → at < length line
    → unread line at ≡ up_to tab (drop (at + 1) line) ∷ unread line (find_from tab line (at + 1))
unread_next line at h = unread_tab line at h ∙ fields_from line (at + 1)

unread_end : (line : List ℕ) (at : ℕ) → length line ≤ at → unread line at ≡ []
unfolding unread
unread_end line at h = rw (le-ltb _ _ h)

-- no number yet, and one more
behind_none : (o : Option (List ℕ)) → behind_these [] o ≡ o
unfolding behind_these
behind_none none = refl
behind_none (some k) = refl

behind_value : (l : List ℕ) (v : ℕ) (o : Option (List ℕ)) → behind_these l (with_number (Some v) o) ≡ behind_these (l ++ v ∷ []) o
unfolding behind_these with_number
behind_value l v none = refl
behind_value l v (some k) = ap some (sym (append_snoc l v k))

-- as many numbers as a word takes, and a field more
many_none : (n l : List ℕ) (x : Parsed ℕ) (o : Option (List ℕ)) → length l ≡ most_numbers → made_from n (behind_these l (with_number x o)) ≡ none
unfolding made_from behind_these with_number
many_none n l None o h = refl
many_none n l (Some v) none h = refl
many_none n l (Some v) (some k) h = made_many n (l ++ v ∷ k) (omega (arith, length-append l (v ∷ k)))

-- a line that is too long
pub line_long : (line : List ℕ) → longest < length line → none ≡ step_on line
unfolding step_on
line_long line h = rw (lt-leb _ _ h)

-- where the name ends, no number is read yet
pub line_name : (line n : List ℕ) → length line ≤ longest → n ≡ field_at line 0 → made_with n [] (length n) line ≡ step_on line
unfolding step_in step_on
line_name line n h e =
    let f : n ≡ up_to tab (drop 0 line) = e ∙ field_first line 0 in
    let z : find_from tab line 0 ≡ length n = rw f (omega arith) in
    let g : fields line ≡ n ∷ unread line (length n) = fields_from line 0 ∙ rw (z, f) in
    rw (le-leb _ _ h, g) (ap (made_from n) (behind_none _))

-- where a field ends, with the numbers so far
module _ (line n l : List ℕ) (at : ℕ) (h : made_with n l at line ≡ step_on line) where
  -- at the line's end these are all
  pub line_end_lem : length line ≤ at → made_by words n l ≡ step_on line
  unfolding behind_these numbers_of made_from
  line_end_lem k = rw (← h, unread_end line at k, append-nil l)

  -- a field more than a word takes
  pub line_many : at < length line → length l ≡ most_numbers → none ≡ step_on line
  unfolding numbers_of
  line_many k m = rw (← h, unread_next line at k, many_none)

  -- the field that is next: it ends within the line; it is no number, or one more
  module _ (k : at < length line) (field : List ℕ) (f : field ≡ up_to tab (drop (at + 1) line)) where
    pub line_within : at + 1 + length field ≤ length line
    line_within = rw f (omega (arith, up_to_most tab (drop (at + 1) line), length-drop (at + 1) line))

    pub line_bad : parsed field ≡ None → none ≡ step_on line
    unfolding behind_these with_number numbers_of made_from
    line_bad e = rw (← h, unread_next line at k, ← f, e)

    pub line_number : (v : ℕ) → parsed field ≡ Some v → made_with n (l ++ v ∷ []) (at + 1 + length field) line ≡ step_on line
    unfolding numbers_of
    line_number v e = ap (made_from n) (sym (rw (unread_next line at k, ← f, e) (behind_value l v _))) ∙ h
