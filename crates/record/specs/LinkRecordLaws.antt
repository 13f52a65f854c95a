-- What the values of lock and send say of a record: the links of the chain that the wait would go along.
use Rattle.std.specs.Prelude.{◌≡◌, ℕ, ◌≤◌, true, ◌⊎◌, List}
use Rattle.std.proofs.Common.{subst, inl, inr, arith}
use Rattle.std.proofs.Math.Option.{some}
use Rattle.lists.specs.TestLaws.{by_test}
use Rattle.rules.specs.Tables.{mutex_of, room_in}
use Rattle.rules.specs.Levels.{links_of}
use Rattle.rules.specs.Step.{Step, lock, send}
use Rattle.rules.proofs.LinkLaws.{lock_links, send_links}
use Rattle.walks.specs.Walk.{task_at}
use Rattle.record.specs.Record.{view_tables, view}
use Rattle.record.specs.Whole.{Whole}
use Rattle.record.specs.SoundRecord.{sound_of}
use Rattle.record.specs.StepRecord.{number_of, value_of, After, after_for, stays, step_by}
use Rattle.record.specs.SoundPackLaws.{sound_view}
use Rattle.record.specs.DemandRecordLaws.{number_back, value_back, step_is}
use Rattle.rules.specs.Answer.{Answer as Ruled, is_formed, step, step_sound}  -- keep

neither : {A : Type 0} (n : ℕ) → 13 ≤ n → (n ≡ 1) ⊎ (n ≡ 12) → A
neither n h z = absurd (elim z [ inl e ↦ omega arith | inr e ↦ omega arith ])

-- what the rules say of number and value of every step, where it says nothing of 14 and 15, a record's step says too
by_rules : (P : ℕ → ℕ → Type 0) (h : Whole) (x : Step) → P 14 0 → P 15 0 → (sound_of h ≡ true → P (step (view h) x).number (step (view h) x).value)
    → P (number_of (step_by h x).answer) (value_of (step_by h x).answer)
unfolding step_by after_for stays
by_rules P h x malformed unsound rules = by_test (λ (A : After). P (number_of A.answer) (value_of A.answer)) (is_formed x)
    (λ f. by_test (λ (A : After). P (number_of A.answer) (value_of A.answer)) (sound_of h)
    (λ e. rw (number_back a.number a.value a.run, value_back a.number a.value a.run) (subst (λ (z : Ruled). P z.number z.value) (step_is (view h) (sound_view h e) x f) (rules e)))
    (λ e. rw (number_back 15 0 _, value_back 15 0 _) unsound))
    (λ f. rw (number_back 14 0 _, value_back 14 0 _) malformed)
  where
    a : Ruled
    a = step_sound (view h) x

-- "links (lock answered 1 or 12)": the value is the length of the defined chain up to the caller, 1 to 15
pub lock_links_record : (h : Whole) (m t : ℕ) → (number_of (step_by h (lock m t)).answer ≡ 1) ⊎ (number_of (step_by h (lock m t)).answer ≡ 12)
    → (r : ℕ) × (task_at h.state.running ≡ some r) × (value_of (step_by h (lock m t)).answer ≡ links_of (view_tables h) r (mutex_of m))
    × (1 ≤ value_of (step_by h (lock m t)).answer) × (value_of (step_by h (lock m t)).answer ≤ 15)
unfolding view
lock_links_record h m t = by_rules Claim h (lock m t) (neither 14 (omega arith)) (neither 15 (omega arith)) (λ e. lock_links (view h) (sound_view h e) m t)
  where
    Claim : ℕ → ℕ → Type 0
    Claim number value = (number ≡ 1) ⊎ (number ≡ 12)
        → (r : ℕ) × (task_at h.state.running ≡ some r) × (value ≡ links_of (view_tables h) r (mutex_of m)) × (1 ≤ value) × (value ≤ 15)

-- document 02, K1: the same for a send, at most 15; 0 on a queue without owner (`LinkLaws.send_unowned`)
pub send_links_record : (h : Whole) (q t : ℕ) (m : List ℕ) → (number_of (step_by h (send q t m)).answer ≡ 1) ⊎ (number_of (step_by h (send q t m)).answer ≡ 12)
    → (r : ℕ) × (task_at h.state.running ≡ some r) × (value_of (step_by h (send q t m)).answer ≡ links_of (view_tables h) r (room_in q))
    × (value_of (step_by h (send q t m)).answer ≤ 15)
unfolding view
send_links_record h q t m = by_rules Claim h (send q t m) (neither 14 (omega arith)) (neither 15 (omega arith)) (λ e. send_links (view h) (sound_view h e) q t m)
  where
    Claim : ℕ → ℕ → Type 0
    Claim number value = (number ≡ 1) ⊎ (number ≡ 12)
        → (r : ℕ) × (task_at h.state.running ≡ some r) × (value ≡ links_of (view_tables h) r (room_in q)) × (value ≤ 15)
