-- "After each accepted step": the ready order is settled by the new levels, then the running task is chosen. Once for all steps.
use Rattle.std.specs.Prelude.{List, [], ◌∷◌, ◌++◌, Bool, cond, not, ℕ, ltb, eqb}
use Rattle.std.proofs.Math.Option.{Option, none, some}
use Rattle.lists.specs.Test.{◌and◌}
use Rattle.lists.specs.Count.{member}
use Rattle.lists.specs.Order.{keep, by_id, insert_head, stable}
use Rattle.rules.specs.Tables.{task_count}
use Rattle.rules.specs.State.{State, placed, level_of}
use Rattle.rules.specs.Effect.{Effect}

-- "ready tasks whose level changed go, by ascending id, to the tail of their new level; newly ready tasks go, by ascending id, to the
-- tail of theirs"; document 02, K3, of the newly ready: "They are to enter in the order in which their waits began, for ticks and for flush
-- alike. Ready tasks whose level changed keep id order." old are the levels before the step, and woken stands in that order (Effect.ended)
unfoldable pub settled_ready : ℕ → (ℕ → ℕ) → (ℕ → ℕ) → List ℕ → List ℕ → List ℕ
settled_ready n old new ready woken =
    let same : ℕ → Bool = λ i. eqb (new i) (old i) in
    stable new (keep same ready ++ (by_id n (λ i. not (same i) and member i ready) ++ woken))

abbrev pub settle : (ℕ → ℕ) → State → List ℕ → State
settle old s woken = placed s s.running (settled_ready (task_count s.tables) old (level_of s) s.ready woken)

-- r runs and l is ready: "if nobody runs, the first ready task runs. If hold is 0 and the first ready task is strictly more urgent than
-- the running one, they change places and the displaced task goes to the head of its level. Equal levels never displace"
unfoldable pub meet : State → Option ℕ → List ℕ → State
meet s r [] = placed s r []
meet s none (x ∷ l) = placed s (some x) l
meet s (some r) (x ∷ l) = cond (eqb s.hold 0 and ltb (level_of s x) (level_of s r))
    (placed s (some x) (insert_head (level_of s) r l))
    (placed s (some r) (x ∷ l))

-- "Then, once started"
unfoldable pub dispatch : State → State
dispatch s = cond s.started (meet s s.running s.ready) s

unfoldable pub finish : State → Effect → State
finish s e = dispatch (settle (level_of s) e.state e.woken)
