-- Flags that name tasks, and columns changed where a flag is set.
use Rattle.std.specs.Prelude.{◌≡◌, refl, List, Bool, false, cond, not, ℕ, ◌≤◌, ◌<◌, eqb, length, get_or, replicate}
use Rattle.std.proofs.Common.{ap, sym, ◌∙◌, arith, get_or-set_same, get_or-set_other, lt-ltb}
use Rattle.std.proofs.Math.Decide.{ℕ_discrete, dec_lt}
use Rattle.std.proofs.Math.ListN.{get_or-eq_default}
use Rattle.std.proofs.lemmas.Bool.{not-true, not-false}
use Rattle.lists.specs.Count.{eqn}
use Rattle.lists.specs.Table.{pad}
use Rattle.lists.specs.TestLaws.{by_test, all_true}
use Rattle.lists.specs.CountLaws.{eqn_at, eqn_other}
use Rattle.lists.specs.TableLaws.{get_d_fill, filled_is, length_pad, get_d_pad}
use Rattle.rules.specs.Sizes.{task_places}
use Rattle.task_lists.specs.TaskList.{key_of}
use Rattle.machine.specs.Machine.{flagged_at, put_flagged, single, any_flag}

-- flags name who passes the test
abbrev pub Flags : List ℕ → (ℕ → Bool) → Type 0
Flags flags p = (i : ℕ) → key_of flags i ≡ cond (p i) 1 0

pub flag_one : (flags : List ℕ) (p : ℕ → Bool) → Flags flags p → (i : ℕ) → eqb (key_of flags i) 1 ≡ p i
flag_one flags p h i = rw (h i) (by_test (λ (x : ℕ). eqb x 1 ≡ p i) (p i) (λ e. sym e) (λ e. sym e))

pub flag_zero : (flags : List ℕ) (p : ℕ → Bool) → Flags flags p → (i : ℕ) → eqb (key_of flags i) 0 ≡ not (p i)
flag_zero flags p h i = rw (h i) (by_test (λ (x : ℕ). eqb x 0 ≡ not (p i)) (p i) (λ e. rw e refl) (λ e. rw e refl))

-- nobody is named
pub no_flag : (flags : List ℕ) → length flags ≡ task_places → any_flag flags ≡ false → (i : ℕ) → eqb (key_of flags i) 1 ≡ false
unfolding any_flag
no_flag flags n e i = elim (dec_lt i task_places) [
  | yes h ↦ not-true (eqb (key_of flags i) 1) (all_true task_places (λ j. not (eqb (key_of flags j) 1)) (not-false _ e) i h)
  | no h ↦ (let q : length flags ≤ i = omega (arith, n) in ap (λ x. eqb x 1) (get_or-eq_default flags 0 q))
]

-- one task
single_at : (x y : ℕ) → x < task_places → key_of (single x) y ≡ eqn x y
unfolding single
single_at x y h = rw (lt-ltb x task_places h) (elim (ℕ_discrete x y) [
  | yes e ↦ rw (← e) (get_or-set_same (replicate task_places 0) x 1 0 h ∙ sym (eqn_at x x refl))
  | no e ↦ get_or-set_other (replicate task_places 0) x y 1 0 (λ q. e (sym q)) ∙ get_d_fill 0 task_places y ∙ sym (eqn_other x y e)
])

pub single_flags : (w : ℕ) → w < task_places → Flags (single w) (eqb w)
unfolding eqn
single_flags w h i = single_at w i h

-- a whole column is the padded one that holds the same
pub flagged_column : (flags : List ℕ) (v : ℕ → ℕ) (l k : List ℕ) → length k ≤ task_places → ((i : ℕ) → cond (eqb (key_of flags i) 1) (v i) (get_or l i 0) ≡ get_or k i 0) → put_flagged flags v l ≡ pad task_places 0 k
flagged_column flags v l k h f = filled_is task_places (flagged_at flags v l) 0 (pad task_places 0 k) (length_pad task_places 0 k h) (λ i q. f i ∙ sym (get_d_pad task_places 0 k i))
