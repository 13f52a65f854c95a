-- What settling and dispatching establish, whatever the step was, and that equals stay and the displaced go to the head.
use Rattle.std.specs.Prelude.{◌≡◌, refl, Bool, true, false, not, ℕ, ◌+◌, ◌≤◌, ◌<◌, eqb}
use Rattle.std.proofs.Math.Path.{ap}
use Rattle.std.proofs.Common.{sym, ◌∙◌, inl, inr, arith}
use mathlib.Core.List.{List, [], ◌∷◌, ◌++◌, append-nil}
use Rattle.std.proofs.Math.Option.{Option, none, some}
use Rattle.std.proofs.Math.Decide.{ℕ_discrete}
use Rattle.std.proofs.Math.Dec.{ltb, leb}
use borrow.Author.Tests.{ltb-true, ltb-false, eqb-true, lt-ltb, le-ltb, eq-eqb}
use Rattle.lists.specs.Test.{◌and◌}
use Rattle.lists.specs.Count.{occ, member, below, opt}
use Rattle.lists.specs.Order.{keep, by_id, place, insert_tail, insert_head, insert_all, stable, Asc}
use Rattle.lists.specs.TestLaws.{which, clash, by_test, and_r, true_and, and_false, some_same}
use Rattle.lists.specs.CountLaws.{eqn_other, occ_append}
use Rattle.lists.specs.OrderLaws.{insert_all_append, occ_insert_all, keep_in, asc_keep, occ_place, asc_first, asc_insert_head, asc_stable, occ_stable, stable_asc, stable_append, keep_all, occ_split, asc_change, by_id_none}
use Rattle.rules.specs.Sizes.{word_size, max_hold}
use Rattle.rules.specs.Tables.{task_count}
use Rattle.rules.specs.State.{State, placed, level_of}
use Rattle.rules.specs.Effect.{Effect}
use Rattle.rules.specs.Settle.{settled_ready, settle, meet, dispatch, finish}
use Rattle.rules.specs.Invariant.{Facts, Places, Runs, Urgent, HoldRuns, SetUp, Inv}

-- the settled order is ascending
pub asc_settled : (n : ℕ) (old new : ℕ → ℕ) (ready woken : List ℕ) → Asc new (settled_ready n old new ready woken)
unfolding settled_ready
asc_settled n old new ready woken = asc_stable new _

-- those that became ready go in last, one after another as they stand
pub settled_woken : (n : ℕ) (old new : ℕ → ℕ) (ready woken : List ℕ) → settled_ready n old new ready woken ≡ insert_all new woken (settled_ready n old new ready [])
unfolding settled_ready stable
settled_woken n old new ready woken =
    insert_all_append new (keep same ready) (moved ++ woken) []
    ∙ insert_all_append new moved woken (insert_all new (keep same ready) [])
    ∙ ap (insert_all new woken) (sym (rw (append-nil moved) (insert_all_append new (keep same ready) moved [])))
  where
    same : ℕ → Bool
    same i = eqb (new i) (old i)

    moved : List ℕ
    moved = by_id n (λ i. not (same i) and member i ready)

-- it holds who was ready and who became so
occ_others : (n : ℕ) (old new : ℕ → ℕ) (ready : List ℕ) (i : ℕ) → occ i ready ≤ below i n → occ i (settled_ready n old new ready []) ≡ occ i ready
unfolding settled_ready
occ_others n old new ready i h =
    let same : ℕ → Bool = λ j. eqb (new j) (old j) in
    let moved = by_id n (λ j. not (same j) and member j ready) in
    omega (
      arith,
      occ_stable new i (keep same ready ++ (moved ++ [])),
      occ_append i (keep same ready) (moved ++ []),
      ap (occ i) (append-nil moved),
      occ_split i n same ready h,
    )

pub occ_settled : (n : ℕ) (old new : ℕ → ℕ) (ready woken : List ℕ) (i : ℕ) → occ i ready ≤ below i n
    → occ i (settled_ready n old new ready woken) ≡ occ i woken + occ i ready
occ_settled n old new ready woken i h = omega (
  arith,
  ap (occ i) (settled_woken n old new ready woken),
  occ_insert_all new i woken (settled_ready n old new ready []),
  occ_others n old new ready i h,
)

-- "ready tasks whose level changed go, by ascending id, to the tail of their new level", and "keep id order": the others stay as they
-- stood, then come the moved ones, one after another
pub settled_moved : (n : ℕ) (old new : ℕ → ℕ) (ready : List ℕ) → Asc old ready
    → settled_ready n old new ready []
    ≡ insert_all new (by_id n (λ i. not (eqb (new i) (old i)) and member i ready)) (keep (λ i. eqb (new i) (old i)) ready)
unfolding settled_ready
settled_moved n old new ready a = rw (append-nil moved) (stable_append new (keep same ready) moved kept)
  where
    same : ℕ → Bool
    same i = eqb (new i) (old i)

    moved : List ℕ
    moved = by_id n (λ i. not (same i) and member i ready)

    kept : Asc new (keep same ready)
    kept = asc_change old new (keep same ready) (λ y m. sym (eqb-true (new y) (old y) (keep_in same y ready m).0)) (asc_keep old same ready a)

-- the whole order in the rules' words: who stays, then the moved by id, and then "the order in which their waits began"
pub settled_order : (n : ℕ) (old new : ℕ → ℕ) (ready woken : List ℕ) → Asc old ready
    → settled_ready n old new ready woken
    ≡ insert_all new woken (insert_all new (by_id n (λ i. not (eqb (new i) (old i)) and member i ready)) (keep (λ i. eqb (new i) (old i)) ready))
settled_order n old new ready woken a = settled_woken n old new ready woken ∙ ap (insert_all new woken) (settled_moved n old new ready a)

-- where no ready task's level changed and nobody became ready, the order stays
pub settled_same : (n : ℕ) (old new : ℕ → ℕ) (ready : List ℕ) → ((i : ℕ) → 1 ≤ occ i ready → new i ≡ old i) → Asc old ready
    → settled_ready n old new ready [] ≡ ready
unfolding settled_ready ◌and◌
settled_same n old new ready h a =
    rw (
      keep_all same ready (λ y m. eq-eqb (new y) (old y) (h y m)),
      by_id_none n (λ i. not (same i) and member i ready) nobody,
      append-nil ready,
    ) (stable_asc new ready (asc_change old new ready (λ y m. sym (h y m)) a))
  where
    same : ℕ → Bool
    same i = eqb (new i) (old i)

    nobody : (y : ℕ) → not (same y) and member y ready ≡ false
    nobody y = elim (which (member y ready)) [
      | inl e ↦ rw (eq-eqb (new y) (old y) (h y (ltb-true 0 (occ y ready) e))) refl
      | inr e ↦ rw e (off (same y))
    ]
      where
        off : (b : Bool) → not b and false ≡ false
        off true = refl
        off false = refl

-- and the one task that became ready goes to the tail of its level
pub settled_one : (n r : ℕ) (old new : ℕ → ℕ) (ready : List ℕ) → ((i : ℕ) → 1 ≤ occ i ready → new i ≡ old i) → Asc old ready
    → settled_ready n old new ready (r ∷ []) ≡ insert_tail new r ready
unfolding insert_all
settled_one n r old new ready h a = settled_woken n old new ready (r ∷ []) ∙ ap (insert_tail new r) (settled_same n old new ready h a)

-- "Equal levels never displace"
pub equal_stays : (s : State) (r x : ℕ) (l : List ℕ) → level_of s r ≤ level_of s x → meet s (some r) (x ∷ l) ≡ placed s (some r) (x ∷ l)
unfolding meet ◌and◌
equal_stays s r x l h = rw (off (eqb s.hold 0)) refl
  where
    off : (b : Bool) → b and ltb (level_of s x) (level_of s r) ≡ false
    off true = le-ltb (level_of s x) (level_of s r) h
    off false = refl

-- "the displaced task goes to the head of its level": before the first that is not more urgent
pub displaced_to_head : (s : State) (r x : ℕ) (l : List ℕ) → s.hold ≡ 0 → level_of s x < level_of s r
    → meet s (some r) (x ∷ l) ≡ placed s (some x) (place (λ y. leb (level_of s r) (level_of s y)) r l)
unfolding meet insert_head
displaced_to_head s r x l e h = rw (true_and _ _ (eq-eqb s.hold 0 e) (lt-ltb (level_of s x) (level_of s r) h)) refl

-- a started state with r running and l ready
module _ (s : State) (F : Facts s.tables) (clock : s.clock < word_size) (depth : s.hold ≤ max_hold) (on : s.started ≡ true) where
  started_inv : (r : Option ℕ) (l : List ℕ) → Places (placed s r l) [] → Asc (level_of s) l → Runs (placed s r l) → HoldRuns (placed s r l) → Urgent (placed s r l) → Inv (placed s r l)
  started_inv r l P a R H U = record {
    facts = F;
    clock_in = clock;
    hold_in = depth;
    places = P;
    ascending = a;
    when_started = λ e. record { runs = R; hold_runs = H; urgent = U };
    at_set_up = λ e. absurd (clash on e);
  }

  meet_inv : (r : Option ℕ) (l : List ℕ) → Places (placed s r l) [] → Asc (level_of s) l → HoldRuns (placed s r l) → Inv (meet s r l)
  unfolding meet occ insert_head
  meet_inv r [] P a H = started_inv r [] P a (λ i m. absurd (omega arith)) H (λ e i r m q. absurd (omega arith))
  meet_inv none (x ∷ l) P a H = started_inv (some x) l (λ i. omega (arith, P i)) a.1 (λ i m. (x, refl)) (λ h. (x, refl))
      (λ e i r m q. omega (arith, a.0 i m, ap (level_of s) (some_same q)))
  meet_inv (some r) (x ∷ l) P a H = by_test Inv (eqb s.hold 0 and ltb (level_of s x) (level_of s r))
      (λ t. started_inv (some x) (place (λ y. leb (level_of s r) (level_of s y)) r l)
      (λ i. omega (arith, P i, occ_place (λ y. leb (level_of s r) (level_of s y)) r i l))
      (asc_insert_head (level_of s) r l a.1) (λ i m. (x, refl)) (λ h. (x, refl))
      (λ e i k m q. elim (ℕ_discrete r i) [
        | yes u ↦ omega (arith, ltb-true (level_of s x) (level_of s r) (and_r _ _ t), ap (level_of s) u, ap (level_of s) (some_same q))
        | no u ↦ omega (arith, a.0 i (omega (arith, occ_place (λ y. leb (level_of s r) (level_of s y)) r i l, eqn_other r i u)), ap (level_of s) (some_same q))
      ]))
      (λ t. started_inv (some r) (x ∷ l) P a (λ i m. (r, refl)) H
      (λ e i k m q. omega (arith, ltb-false (level_of s x) (level_of s r) (and_false _ _ (eq-eqb s.hold 0 e) t), asc_first (level_of s) x l a i m, ap (level_of s) (some_same q))))

-- the end of every accepted step
pub finish_inv : (before : State) (e : Effect) → Facts e.state.tables → e.state.clock < word_size → e.state.hold ≤ max_hold
    → Places e.state e.woken → HoldRuns e.state
    → (e.state.started ≡ false → SetUp (settle (level_of before) e.state e.woken))
    → Inv (finish before e)
unfolding finish dispatch occ
finish_inv before e F clock depth P H U = by_test Inv e.state.started
    (λ on. meet_inv settled F clock depth on s.running order places (asc_settled (task_count s.tables) old (level_of s) s.ready e.woken) H)
    (λ off. record {
      facts = F;
      clock_in = clock;
      hold_in = depth;
      places = places;
      ascending = asc_settled (task_count s.tables) old (level_of s) s.ready e.woken;
      when_started = λ on. absurd (clash on off);
      at_set_up = U;
    })
  where
    s : State
    s = e.state

    old : ℕ → ℕ
    old = level_of before

    order : List ℕ
    order = settled_ready (task_count s.tables) old (level_of s) s.ready e.woken

    settled : State
    settled = settle old s e.woken

    places : (i : ℕ) → occ i [] + (occ i order + (occ i s.tables.tasks.waiting + occ i (opt s.running))) ≡ below i (task_count s.tables)
    places i = omega (arith, P i, nothing, occ_settled (task_count s.tables) old (level_of s) s.ready e.woken i (omega (arith, P i)))
      where
        nothing : occ i [] ≡ 0
        nothing = refl
