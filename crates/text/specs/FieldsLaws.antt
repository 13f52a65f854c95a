-- Laws of a line's fields.
use Rattle.std.specs.Prelude.{◌≡◌, refl, List, [], ◌∷◌, ℕ, zero, suc, ◌+◌, ◌≤◌, ◌<◌, cond, eqb, ltb, length, get_or, drop, ◌-◌}
use Rattle.std.proofs.Common.{ap, sym, ◌∙◌, arith, drop_of_length-le, ltb-true, ltb-false, add-one, drop-cons, eq-eqb, ne_eqb}
use Rattle.std.proofs.Math.Logic.{inl, inr}
use Rattle.std.specs.List.{slice_split, count_by}
use Rattle.std.proofs.lemmas.List.Splits.{length-slice_split}
use Rattle.std.proofs.lemmas.List.Recursion.{same_from_clauses}
use Rattle.text.specs.Cut.{up_to, Free, find_from, on_first, pieces, behind, joined}
use Rattle.lists.specs.TestLaws.{which}
use Rattle.text.specs.CutLaws.{pieces_next, pieces_last, joined_pieces, pieces_some, pieces_free}
use Rattle.text.specs.Fields.{tab, fields, field_at}

-- a line has at least one field
pub fields_some : (line : List ℕ) → 0 < length (fields line)
unfolding fields pieces
fields_some [] = omega arith
fields_some (c ∷ cs) = pieces_some tab ([] ∷ []) c cs

-- they are the parts of std's `split`
pub fields_split : (line : List ℕ) → slice_split (λ c. eqb c tab) line ≡ fields line
unfolding fields pieces
fields_split line = same_from_clauses (λ l. slice_split (λ c. eqb c tab) l) (λ l. pieces tab ([] ∷ []) l) (λ c ps. cond (eqb c tab) ([] ∷ ps) (on_first c ps)) refl part (λ c cs. refl) line where
  part : (c : ℕ) (cs : List ℕ) → slice_split (λ c. eqb c tab) (c ∷ cs) ≡ cond (eqb c tab) ([] ∷ slice_split (λ c. eqb c tab) cs) (on_first c (slice_split (λ c. eqb c tab) cs))
  part c cs = elim (slice_split (λ c. eqb c tab) cs) [ [] ↦ refl | p ∷ ps ↦ refl ]

-- so there is one more than there are tabs
pub fields_count : (line : List ℕ) → count_by (λ c. eqb c tab) line + 1 ≡ length (fields line)
fields_count line = sym (length-slice_split (λ c. eqb c tab) line) ∙ ap length (fields_split line)

-- cutting gives back the line
pub fields_line : (line : List ℕ) → joined tab (fields line) ≡ line
unfolding fields pieces joined behind
fields_line [] = refl
fields_line (c ∷ cs) = joined_pieces tab ([] ∷ []) c cs (fields_some cs) ∙ ap (λ (l : List ℕ). c ∷ l) (fields_line cs)

-- and no field holds a tab
pub fields_free : (line : List ℕ) (n : ℕ) → Free tab (field_at line n)
unfolding fields up_to
fields_free line n = pieces_free tab ([] ∷ []) one line n where
  one : (k : ℕ) → up_to tab (get_or ([] ∷ []) k []) ≡ get_or ([] ∷ []) k []
  one zero = refl
  one (suc k) = refl

-- a byte that is no tab makes no field
same_count : (c : ℕ) (ps : List (List ℕ)) → 0 < length ps → length (on_first c ps) ≡ length ps
same_count c [] h = absurd (omega arith)
same_count c (p ∷ ps) h = refl

pub count_other : (line : List ℕ) (i : ℕ) → i < length line → (get_or line i 0 ≡ tab → ⊥) → length (fields (drop i line)) ≡ length (fields (drop (i + 1) line))
unfolding fields pieces
count_other line i h e = rw (add-one, drop-cons line i 0 h, ne_eqb _ _ e) (same_count (get_or line i 0) (fields (drop (suc i) line)) (fields_some (drop (suc i) line)))

pub count_tab : (line : List ℕ) (i : ℕ) → i < length line → get_or line i 0 ≡ tab → length (fields (drop i line)) ≡ suc (length (fields (drop (i + 1) line)))
unfolding fields pieces
count_tab line i h e = rw (add-one, drop-cons line i 0 h, eq-eqb _ _ e)

pub count_end : (line : List ℕ) (i : ℕ) → length line ≤ i → length (fields (drop i line)) ≡ 1
unfolding fields pieces
count_end line i h = rw (drop_of_length-le line h)

-- the field that begins at a place, and those behind the tab that ends it
module _ (line : List ℕ) (at : ℕ) where
  pub fields_next : find_from tab line at < length line → fields (drop at line) ≡ up_to tab (drop at line) ∷ fields (drop (find_from tab line at + 1) line)
  unfolding fields
  fields_next h = pieces_next tab ([] ∷ []) line at h

  -- the last field
  pub fields_last : length line ≤ find_from tab line at → fields (drop at line) ≡ up_to tab (drop at line) ∷ []
  unfolding fields pieces up_to
  fields_last h = elim (which (ltb at (length line))) [
    | inl e ↦ pieces_last tab ([] ∷ []) line at (λ c. refl) (ltb-true _ _ e) h
    | inr e ↦ rw (drop_of_length-le line (ltb-false _ _ e))
  ]

-- the first field from a place on
module _ (line : List ℕ) (at : ℕ) where
  pub field_first : field_at (drop at line) 0 ≡ up_to tab (drop at line)
  field_first = elim (which (ltb (find_from tab line at) (length line))) [
    | inl e ↦ rw (fields_next line at (ltb-true _ _ e))
    | inr e ↦ rw (fields_last line at (ltb-false _ _ e))
  ]

  pub field_behind : (n : ℕ) → 0 < n → find_from tab line at < length line → field_at (drop at line) n ≡ field_at (drop (find_from tab line at + 1) line) (n - 1)
  field_behind zero h k = absurd (omega arith)
  field_behind (suc n) h k = let e : suc n - 1 ≡ n = omega arith in rw (fields_next line at k, e)

  pub field_none : (n : ℕ) → 0 < n → length line ≤ find_from tab line at → field_at (drop at line) n ≡ []
  field_none zero h k = absurd (omega arith)
  field_none (suc n) h k = rw (fields_last line at k)
