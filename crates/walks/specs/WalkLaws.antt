-- Laws of walks over a table of ids: the levels they leave are the least values that lead to each task.
use Rattle.std.specs.Prelude.{◌≡◌, List, [], ◌∷◌, Bool, cond, ltb, eqb, length, get_or, set}
use Rattle.std.proofs.Math.Path.{refl, ap, sym, fun_ext}
use Rattle.std.proofs.Common.{◌∙◌, arith, length-set, get_or-set_same, get_or-set_other, lt-ltb, le-ltb, eq-eqb, ne_eqb}
use Rattle.std.proofs.Math.Option.{Option, none, some}
use Prim.Native.Nat.{ℕ, zero, suc, ◌+◌, ◌≤◌, ◌<◌, min}
use Rattle.std.proofs.Math.Decide.{ℕ_discrete, dec_lt}
use Rattle.std.proofs.Math.ListN.{get_or-eq_default}
use Rattle.std.proofs.Math.Seq.{set_out}
use Rattle.lists.specs.Test.{holds}
use Rattle.lists.specs.Count.{eqn, occ, member}
use Rattle.lists.specs.TestLaws.{by_test, some_same}
use Rattle.lists.specs.CountLaws.{eqn_at, eqn_other}
use Rattle.chains.specs.Chain.{walk, endsb}
use Rattle.chains.specs.Least.{least, leads_to, least_leading}
use Rattle.chains.specs.LeastLaws.{least_same, least_used}
use Rattle.rules.specs.Sizes.{task_places}
use Rattle.walks.specs.Walk.{task_at, next_in, lifted, raised, lent, lent_by}

-- the task of an id
module _ (x : ℕ) where
  pub task_in : x < task_places → task_at x ≡ some x
  task_in h = rw (lt-ltb x task_places h) refl

  pub task_out : task_places ≤ x → task_at x ≡ none
  task_out h = rw (le-ltb x task_places h) refl

-- whether an id's task is i
holds_task : (x i : ℕ) → i < task_places → holds (task_at x) i ≡ eqb x i
unfolding holds
holds_task x i h = elim (dec_lt x task_places) [
  | yes l ↦ rw (task_in x l) refl
  | no l ↦ rw (task_out x (omega arith)) (sym (ne_eqb x i (λ e. omega arith)))
]

-- the task after i
module _ (next : List ℕ) (i : ℕ) where
  pub next_in_lem : i < task_places → next_in next i ≡ task_at (get_or next i 0)
  next_in_lem h = rw (lt-ltb i task_places h) refl

  pub next_out : task_places ≤ i → next_in next i ≡ none
  next_out h = rw (le-ltb i task_places h) refl

-- a table and a map that agree on the first n tasks, and lead nowhere from the others
pub next_agrees : (next : List ℕ) (f : ℕ → Option ℕ) (n : ℕ) → ((i : ℕ) → i < n → next_in next i ≡ f i)
    → ((i : ℕ) → n ≤ i → next_in next i ≡ none) → ((i : ℕ) → n ≤ i → f i ≡ none) → (i : ℕ) → next_in next i ≡ f i
next_agrees next f n h a b i = elim (dec_lt i n) [ yes q ↦ h i q | no q ↦ a i (omega arith) ∙ sym (b i (omega arith)) ]

-- maps that agree everywhere are one
module _ (f g : ℕ → Option ℕ) (same : (i : ℕ) → f i ≡ g i) where
  pub walk_ext : (n : ℕ) (o : Option ℕ) → walk n f o ≡ walk n g o
  walk_ext n o = ap (λ (h : ℕ → Option ℕ). walk n h o) (fun_ext same)

  pub ends_ext : (n : ℕ) (o : Option ℕ) → endsb n f o ≡ endsb n g o
  ends_ext n o = ap (λ (h : ℕ → Option ℕ). endsb n h o) (fun_ext same)

  pub leading_ext : (n : ℕ) (own : ℕ → ℕ) (i : ℕ) → least_leading n f own i ≡ least_leading n g own i
  leading_ext n own i = ap (λ (h : ℕ → Option ℕ). least_leading n h own i) (fun_ext same)

-- values that agree below n have one least
pub least_ext : (n : ℕ) (p : ℕ → Bool) (f g : ℕ → ℕ) (d : ℕ) → ((j : ℕ) → j < n → f j ≡ g j) → least n p f d ≡ least n p g d
unfolding least
least_ext zero p f g d h = refl
least_ext (suc n) p f g d h = rw (h n (omega arith), least_ext n p f g d (λ j q. h j (omega arith)))

pub leading_own : (n : ℕ) (next : ℕ → Option ℕ) (f g : ℕ → ℕ) → ((j : ℕ) → j < n → f j ≡ g j)
    → (i : ℕ) → i < n → least_leading n next f i ≡ least_leading n next g i
unfolding least_leading
leading_own n next f g h i q = rw (h i q) (least_ext n (λ j. leads_to n next j i) f g (g i) h)

-- lengths stay
pub length_lifted : (levels : List ℕ) (p : ℕ) (l : List ℕ) → length (lifted levels p l) ≡ length levels
unfolding lifted
length_lifted levels p [] = refl
length_lifted levels p (x ∷ l) =
    length_lifted (set levels x (min p (get_or levels x 0))) p l ∙ length-set levels x (min p (get_or levels x 0))

pub length_raised : (own next : List ℕ) (n j : ℕ) → length (raised own next n j) ≡ length own
unfolding raised
length_raised own next n zero = refl
length_raised own next n (suc j) =
    length_lifted (raised own next n j) (get_or own j 0) (walk n (next_in next) (task_at j)) ∙ length_raised own next n j

-- one task raised to p; a place that the table lacks stays at 0
raise_same : (levels : List ℕ) (x p : ℕ) → get_or (set levels x (min p (get_or levels x 0))) x 0 ≡ min p (get_or levels x 0)
raise_same levels x p = elim (dec_lt x (length levels)) [
  | yes h ↦ get_or-set_same levels x (min p (get_or levels x 0)) 0 h
  | no h ↦ (let q : length levels ≤ x = omega arith in
      rw (set_out levels x (min p (get_or levels x 0)) q) (omega (arith, get_or-eq_default levels 0 q)))
]

-- each on the list is raised to p, and no other
pub get_d_lifted : (levels : List ℕ) (p : ℕ) (l : List ℕ) (i : ℕ)
    → get_or (lifted levels p l) i 0 ≡ cond (member i l) (min p (get_or levels i 0)) (get_or levels i 0)
unfolding lifted occ
get_d_lifted levels p [] i = refl
get_d_lifted levels p (x ∷ l) i = elim (ℕ_discrete x i) [
  | yes e ↦ (let q : get_or (set levels x (min p (get_or levels x 0))) i 0 ≡ min p (get_or levels i 0) = rw (← e) (raise_same levels x p) in
      rw (lt-ltb 0 (eqn x i + occ i l) (omega (arith, eqn_at x i e)))
      (get_d_lifted (set levels x (min p (get_or levels x 0))) p l i
      ∙ rw q (by_test (λ (v : ℕ). v ≡ min p (get_or levels i 0)) (member i l) (λ u. omega arith) (λ u. refl))))
  | no n ↦ (let q : eqn x i + occ i l ≡ occ i l = omega (arith, eqn_other x i n) in
      rw q
      (get_d_lifted (set levels x (min p (get_or levels x 0))) p l i
      ∙ rw (get_or-set_other levels x i (min p (get_or levels x 0)) 0 (λ e. n (sym e))) refl))
]

-- after j tasks, the least of the task's own and of those whose chain leads to it
module _ (own next : List ℕ) (n : ℕ) where
  pub get_d_raised : (j i : ℕ) → j ≤ task_places
      → get_or (raised own next n j) i 0 ≡ least j (λ k. leads_to n (next_in next) k i) (λ k. get_or own k 0) (get_or own i 0)
  unfolding raised least leads_to
  get_d_raised zero i h = refl
  get_d_raised (suc j) i h =
      get_d_lifted (raised own next n j) (get_or own j 0) (walk n (next_in next) (task_at j)) i
      ∙ rw (task_in j (omega arith), get_d_raised j i (omega arith)) refl

  -- the table that levels_of makes, read at a task
  pub raised_is_level : n ≤ task_places → (i : ℕ) → get_or (raised own next n n) i 0 ≡ least_leading n (next_in next) (λ j. get_or own j 0) i
  unfolding least_leading
  raised_is_level h i = get_d_raised n i h

  -- the same over another map that agrees with the table
  pub raised_ext : n ≤ task_places → (f : ℕ → Option ℕ) → ((i : ℕ) → next_in next i ≡ f i)
      → (i : ℕ) → get_or (raised own next n n) i 0 ≡ least_leading n f (λ j. get_or own j 0) i
  raised_ext h f e i = raised_is_level h i ∙ leading_ext (next_in next) f e n (λ j. get_or own j 0) i

-- a chain among the first n tasks comes to no other
walk_below : (f : ℕ → Option ℕ) (n : ℕ) → ((k m : ℕ) → k < n → f k ≡ some m → m < n) → (i : ℕ) → n ≤ i
    → (fuel : ℕ) (o : Option ℕ) → ((m : ℕ) → o ≡ some m → m < n) → occ i (walk fuel f o) ≡ 0
unfolding walk occ
walk_below f n b i h zero o s = refl
walk_below f n b i h (suc fuel) none s = refl
walk_below f n b i h (suc fuel) (some j) s =
    let q : j < n = s j refl in
    omega (arith, eqn_other j i (λ e. omega arith), walk_below f n b i h fuel (f j) (λ m. b j m q))

-- the levels of the others stay
pub raised_out : (own next : List ℕ) (n : ℕ) → n ≤ task_places → ((k m : ℕ) → k < n → next_in next k ≡ some m → m < n)
    → (i : ℕ) → n ≤ i → get_or (raised own next n n) i 0 ≡ get_or own i 0
unfolding least leads_to
raised_out own next n h b i q =
    get_d_raised own next n n i h
    ∙ least_used 0 n (λ k. leads_to n (next_in next) k i) (λ k. get_or own k 0) (get_or own i 0) (omega arith)
    (λ j z r. rw (walk_below (next_in next) n b i q n (some j) (λ m e. omega (arith, some_same e))) refl)

-- one task raised, and no other
get_d_lent : (levels : List ℕ) (o p i : ℕ) → i < task_places → get_or (lent levels o p) i 0 ≡ cond (eqb o i) (min p (get_or levels i 0)) (get_or levels i 0)
unfolding lent
get_d_lent levels o p i h = elim (ℕ_discrete o i) [
  | yes e ↦ rw (e, eq-eqb i i refl, lt-ltb i task_places h) (raise_same levels i p)
  | no n ↦ rw (ne_eqb o i n) (by_test (λ (l : List ℕ). get_or l i 0 ≡ get_or levels i 0) (ltb o task_places)
      (λ u. get_or-set_other levels o i (min p (get_or levels o 0)) 0 (λ e. n (sym e)))
      (λ u. refl))
]

module _ (own to level : List ℕ) where
  -- after j tasks, the least of the task's own and of what those lend it
  pub get_d_lent_by : (j i : ℕ) → i < task_places
      → get_or (lent_by own to level j) i 0 ≡ least j (λ k. eqb (get_or to k 0) i) (λ k. get_or level k 0) (get_or own i 0)
  unfolding lent_by least
  get_d_lent_by zero i h = refl
  get_d_lent_by (suc j) i h = get_d_lent (lent_by own to level j) (get_or to j 0) (get_or level j 0) i h ∙ rw (get_d_lent_by j i h) refl

  -- the same over a map that agrees with the table, and leads nowhere from n on
  pub lent_ext : (n : ℕ) (f : ℕ → Option ℕ) → n ≤ task_places → ((k : ℕ) → next_in to k ≡ f k) → ((k : ℕ) → n ≤ k → f k ≡ none)
      → (i : ℕ) → i < task_places → get_or (lent_by own to level task_places) i 0 ≡ least n (λ k. holds (f k) i) (λ k. get_or level k 0) (get_or own i 0)
  unfolding holds
  lent_ext n f fit same out i h =
      get_d_lent_by task_places i h
      ∙ least_same task_places _ (λ k. holds (f k) i) _ _ (λ k l. sym (holds_task (get_or to k 0) i h) ∙ ap (λ (o : Option ℕ). holds o i) (sym (next_in_lem to k l) ∙ same k))
      ∙ least_used n task_places (λ k. holds (f k) i) _ _ fit (λ k a l. rw (out k a) refl)
