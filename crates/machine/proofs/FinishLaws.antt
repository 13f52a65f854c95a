-- The end of every accepted step over the packed state: levels, ready order and running task, by the laws of the stages.
use Rattle.std.specs.Prelude.{◌≡◌, refl, List, [], ◌∷◌, true, ℕ, ◌≤◌, ltb, eqb}
use Rattle.std.proofs.Common.{ap, sym, ◌∙◌, arith, ltb-true, eqb-true}
use Rattle.std.proofs.Math.Option.{Option, none, some}
use Rattle.lists.specs.Test.{◌and◌}
use Rattle.lists.specs.Count.{occ}
use Rattle.lists.specs.Order.{keep, Asc}
use Rattle.lists.specs.TestLaws.{by_test, and_l, and_r, none_some}
use Rattle.lists.specs.CountLaws.{occ_head}
use Rattle.rules.specs.Levels.{level_in}
use Rattle.rules.specs.Settle.{settled_ready, settle, meet, dispatch}
use Rattle.rules.specs.Invariant.{Facts, Places, Runs, Urgent, Started, Inv}
use Rattle.rules.proofs.SettleLaws.{asc_settled, occ_settled, settled_same}
use Rattle.task_lists.specs.TaskList.{task_list_of, key_of}
use Rattle.record.specs.Record.{pack}
use Rattle.machine.specs.Machine.{settled, dispatched, entered, all_entered}
use Rattle.record.specs.PackLaws.{level_column, pack_with}
use Rattle.machine.proofs.StageLaws.{unchanged_pack, settle_pack, all_entered_lem, one_entered}
use Rattle.machine.proofs.DispatchLaws.{dispatch_pack}
use Rattle.record.specs.declared.State.{State}  -- keep
use Rattle.rules.specs.State.{State as Model, level_of, placed, with_tables, with_clock, with_hold}  -- keep
use Rattle.rules.specs.Tables.{Tables, task_count}  -- keep

-- where everything is in its place, nobody moves
meet_still : (s : Model) (o : Option ℕ) (l : List ℕ) → ((i : ℕ) → 1 ≤ occ i l → (r : ℕ) × (o ≡ some r))
    → (s.hold ≡ 0 → (i r : ℕ) → 1 ≤ occ i l → o ≡ some r → level_of s r ≤ level_of s i) → meet s o l ≡ placed s o l
unfolding meet
meet_still s o [] R U = refl
meet_still s none (x ∷ l) R U = none_some refl (R x (occ_head x l)).1
meet_still s (some r) (x ∷ l) R U = by_test (λ (z : Model). z ≡ placed s (some r) (x ∷ l)) (eqb s.hold 0 and ltb (level_of s x) (level_of s r))
    (λ e. absurd (omega (arith, U (eqb-true s.hold 0 (and_l _ _ e)) x r (occ_head x l) refl, ltb-true (level_of s x) (level_of s r) (and_r _ _ e)))) (λ e. refl)

pub dispatch_still : (s : Model) → (s.started ≡ true → Runs s × Urgent s) → dispatch s ≡ s
unfolding dispatch
dispatch_still s h = by_test (λ (z : Model). z ≡ s) s.started (λ e. meet_still s s.running s.ready (h e).0 (h e).1) (λ e. refl)

module _ (o : List ℕ) (s : Model) (I : Inv s) where
  -- nothing moves, and no level changed
  pub quiet_pack : (t : Tables) (c h : ℕ) → Facts t → task_count t ≡ task_count s.tables → t.tasks.waiting ≡ s.tables.tasks.waiting → ((i : ℕ) → level_in t i ≡ level_of s i)
      → (h ≡ 0 → s.hold ≡ 0) → pack_with o (level_column s.tables) (with_hold (with_clock (with_tables s t) c) h) ≡ pack o (dispatch (settle (level_of s) (with_hold (with_clock (with_tables s t) c) h) []))
  quiet_pack t c h F n w same low = unchanged_pack o s s' n I.ascending (λ i h. same i)
      ∙ ap (pack o) (sym (dispatch_still (settle (level_of s) s' []) (λ e. runs (I.when_started e) order)))
    where
      s' : Model
      s' = with_hold (with_clock (with_tables s t) c) h

      order : settled_ready (task_count t) (level_of s) (level_in t) s.ready [] ≡ s.ready
      order = settled_same (task_count t) (level_of s) (level_in t) s.ready (λ i m. same i) I.ascending

      runs : Started s → {l : List ℕ} → l ≡ s.ready → Runs (placed s' s.running l) × Urgent (placed s' s.running l)
      runs S e = (
        (λ i m. S.runs i (omega (arith, ap (occ i) e))),
        (λ z i r m q. omega (arith, S.urgent (low z) i r (omega (arith, ap (occ i) e)) q, same r, same i)),
      )

  -- after settling, who may run is chosen
  module _ (e : Model) (woken : List ℕ) (F : Facts e.tables) (P : Places e woken) where
    chosen_pack : dispatched (pack o (settle (level_of s) e woken)) ≡ pack o (dispatch (settle (level_of s) e woken))
    unfolding occ
    chosen_pack = dispatch_pack o (settle (level_of s) e woken) F
        (λ i. omega (arith, P i, occ_settled (task_count e.tables) (level_of s) (level_of e) e.ready woken i (omega (arith, P i))))
        (asc_settled (task_count e.tables) (level_of s) (level_of e) e.ready woken)

    -- k is packed and settled, and those that became ready enter it
    module _ (k : State) (base : k ≡ pack o (settle (level_of s) e [])) where
      pub all_finish : (order flags : List ℕ) → keep (λ i. eqb (key_of flags i) 1) order ≡ woken → dispatched (all_entered k (task_list_of order) flags) ≡ pack o (dispatch (settle (level_of s) e woken))
      all_finish order flags f = ap (λ z. dispatched (all_entered z (task_list_of order) flags)) base ∙ ap dispatched (all_entered_lem o s e woken F P order flags f) ∙ chosen_pack

      pub one_finish : (w : ℕ) → woken ≡ w ∷ [] → dispatched (entered k w) ≡ pack o (dispatch (settle (level_of s) e woken))
      one_finish w f = ap (λ z. dispatched (entered z w)) base ∙ ap dispatched (one_entered o s e woken F P w f) ∙ chosen_pack

  pub settled_finish : (e : Model) → Facts e.tables → task_count e.tables ≡ task_count s.tables → Places e [] → Asc (level_of s) e.ready
      → dispatched (settled (pack_with o (level_column s.tables) e)) ≡ pack o (dispatch (settle (level_of s) e []))
  settled_finish e F n P a = ap dispatched (settle_pack o s e F n (λ i. omega (arith, P i)) a) ∙ chosen_pack e [] F P

  pub unchanged_finish : (e : Model) → Facts e.tables → task_count e.tables ≡ task_count s.tables → Places e [] → Asc (level_of s) e.ready
      → ((i : ℕ) → level_in e.tables i ≡ level_of s i) → dispatched (pack_with o (level_column s.tables) e) ≡ pack o (dispatch (settle (level_of s) e []))
  unchanged_finish e F n P a same = ap dispatched (unchanged_pack o s e n a (λ i h. same i)) ∙ chosen_pack e [] F P
