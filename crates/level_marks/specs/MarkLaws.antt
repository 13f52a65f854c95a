-- Laws of level marks, over any ready order and any levels: the mark law, the first level found, and that none is found exactly when the word is 0.
use Rattle.std.specs.Prelude.{◌≡◌, true, false, ℕ, ◌^◌, ◌≤◌, ◌<◌, ltb, eqb, length, get_or}
use Rattle.std.proofs.Math.Path.{refl, fun_ext}
use Rattle.std.proofs.Common.{ap, sym, ◌∙◌, arith}
use mathlib.Core.List.{List, [], ◌∷◌, ◌++◌}
use Rattle.std.proofs.Math.Logic.{inl, inr}
use Rattle.std.proofs.Math.Decide.{ℕ_discrete}
use Rattle.std.specs.Int.Bits.{bit_or}
use borrow.Author.Tests.{eq-eqb, eqb-true, lt-ltb, ltb-true}
use Rattle.lists.specs.Test.{◌or◌}
use Rattle.lists.specs.Count.{occ}
use Rattle.lists.specs.Order.{Asc}
use Rattle.lists.specs.TestLaws.{which, clash, or_true, or_l, or_r}
use Rattle.lists.specs.CountLaws.{eqn_other, occ_head}
use Rattle.lists.specs.OrderLaws.{asc_first}
use Rattle.rules.specs.Sizes.{task_places, levels}
use Rattle.level_marks.specs.Bits.{word_where, is_set, first_where}
use Rattle.level_marks.specs.Marks.{ready_at, marks_of, mark_of, first_marked, level_at, marks_in}
use Rattle.level_marks.specs.BitLaws.{set_where, where_in, none_where, zero_set, zero_word, or_where, first_same, first_found, first_none, none_before}

-- "none is found exactly when the word is 0", for every word with a bit for each level
pub none_found : (word : ℕ) → word < 2 ^ levels → (first_marked word ≡ levels → word ≡ 0) × (word ≡ 0 → first_marked word ≡ levels)
none_found word b = ((λ e. zero_word levels word b (λ l h. none_before levels (is_set word) l (omega (arith, e)))), (λ e. rw e (first_none levels (is_set 0) (λ l h. zero_set l))))

module _ (level : ℕ → ℕ) where
  -- who is ready at a level
  ready_there : (ready : List ℕ) (l : ℕ) → ready_at level ready l ≡ true → (x : ℕ) × (1 ≤ occ x ready) × (level x ≡ l)
  unfolding ready_at occ
  ready_there [] l e = absurd (clash e refl)
  ready_there (x ∷ ready) l e = elim (or_true _ _ e) [
    | inl f ↦ (x, occ_head x ready, eqb-true (level x) l f)
    | inr f ↦ (let r = ready_there ready l f in (r.0, omega (arith, r.1), r.2))
  ]

  there_ready : (ready : List ℕ) (l x : ℕ) → 1 ≤ occ x ready → level x ≡ l → ready_at level ready l ≡ true
  unfolding ready_at occ
  there_ready [] l x m e = absurd (omega arith)
  there_ready (y ∷ ready) l x m e = elim (ℕ_discrete y x) [
    | yes q ↦ or_l _ _ (eq-eqb (level y) l (ap level q ∙ e))
    | no n ↦ or_r _ _ (there_ready ready l x (omega (arith, eqn_other y x n)) e)
  ]

  -- "bit l is set exactly when a task of level l is ready"
  pub mark_law : (ready : List ℕ) (l : ℕ) → l < levels
      → (is_set (marks_of level ready) l ≡ true → (x : ℕ) × (1 ≤ occ x ready) × (level x ≡ l)) × ((x : ℕ) → 1 ≤ occ x ready → level x ≡ l → is_set (marks_of level ready) l ≡ true)
  mark_law ready l h =
      let bit : is_set (marks_of level ready) l ≡ ready_at level ready l = set_where levels (ready_at level ready) l h in
      ((λ e. ready_there ready l (sym bit ∙ e)), (λ x m e. bit ∙ there_ready ready l x m e))

  -- the level found, for every order: the first at which a task is ready
  pub first_ready : (ready : List ℕ) → first_marked (marks_of level ready) ≡ first_where levels (ready_at level ready)
  first_ready ready = first_same levels (is_set (marks_of level ready)) (ready_at level ready) (set_where levels (ready_at level ready))

  -- for an ascending one: that of the first ready task
  pub first_of_order : (x : ℕ) (l : List ℕ) → Asc level (x ∷ l) → level x < levels → first_marked (marks_of level (x ∷ l)) ≡ level x
  first_of_order x l a h = first_ready (x ∷ l) ∙ first_found levels (ready_at level (x ∷ l)) (level x) h (there_ready (x ∷ l) (level x) x (occ_head x l) refl) before
    where
      before : (j : ℕ) → j < level x → ready_at level (x ∷ l) j ≡ false
      before j m = elim (which (ready_at level (x ∷ l) j)) [
        | inl e ↦ absurd (let r = ready_there (x ∷ l) j e in omega (arith, asc_first level x l a r.0 r.1, r.2))
        | inr e ↦ e
      ]

  -- a word of marks has a bit for each level
  pub marks_in_lem : (ready : List ℕ) → marks_of level ready < 2 ^ levels
  marks_in_lem ready = where_in levels (ready_at level ready)

  -- nobody is ready, and one more
  pub marks_nobody : marks_of level [] ≡ 0
  unfolding ready_at
  marks_nobody = none_where levels (ready_at level []) (λ l h. refl)

  ready_more : (ready : List ℕ) (x l : ℕ) → ready_at level ready l or eqb (level x) l ≡ ready_at level (ready ++ (x ∷ [])) l
  unfolding ready_at ◌or◌
  ready_more [] x l = elim (which (eqb (level x) l)) [ inl e ↦ rw e refl | inr e ↦ rw e refl ]
  ready_more (y ∷ ready) x l = elim (which (eqb (level y) l)) [ inl e ↦ rw e refl | inr e ↦ rw e (ready_more ready x l) ]

  pub marks_more : (ready : List ℕ) (x : ℕ) → bit_or (marks_of level ready) (mark_of (level x)) ≡ marks_of level (ready ++ (x ∷ []))
  marks_more ready x = or_where levels (ready_at level ready) (eqb (level x)) ∙ ap (word_where levels) (fun_ext (ready_more ready x))

  -- where there is a mark somebody is ready
  pub marked_somebody : (ready : List ℕ) → (marks_of level ready ≡ 0 → ⊥) → 0 < length ready
  marked_somebody [] h = absurd (h marks_nobody)
  marked_somebody (x ∷ ready) h = omega arith

  -- a ready task of one of the levels leaves a mark
  pub some_marked : (ready : List ℕ) (x : ℕ) → 1 ≤ occ x ready → level x < levels → marks_of level ready ≡ 0 → ⊥
  some_marked ready x m h e = clash ((mark_law ready (level x) h).1 x m refl) (ap (λ w. is_set w (level x)) e ∙ zero_set (level x))

-- the level of a task that has a place, and who has one of the levels
pub level_placed : (table : List ℕ) (x : ℕ) → x < task_places → level_at table x ≡ get_or table x 0
unfolding level_at
level_placed table x h = rw (lt-ltb x task_places h) refl

has_place : (table : List ℕ) (x : ℕ) → level_at table x < levels → x < task_places
unfolding level_at
has_place table x h = elim (which (ltb x task_places)) [
  | inl e ↦ ltb-true x task_places e
  | inr e ↦ absurd (let z : levels < levels = rw e at h in omega arith)
]

-- the mark law for a table of levels: bit l is set exactly when a task that has a place there, of level l, is ready
pub mark_law_table : (table ready : List ℕ) (l : ℕ) → l < levels
    → (is_set (marks_in table ready) l ≡ true → (x : ℕ) × (1 ≤ occ x ready) × (x < task_places) × (get_or table x 0 ≡ l))
    × ((x : ℕ) → 1 ≤ occ x ready → x < task_places → get_or table x 0 ≡ l → is_set (marks_in table ready) l ≡ true)
mark_law_table table ready l h =
    let law = mark_law (level_at table) ready l h in (
      (λ e.
          let r = law.0 e in
          let low : r.0 < task_places = has_place table r.0 (omega (arith, r.2)) in
          (r.0, r.1, low, sym (level_placed table r.0 low) ∙ r.2)),
      (λ x m low e. law.1 x m (level_placed table x low ∙ e)),
    )
