-- What owning a record tells: arrays have their lengths, and due times are 32-bit numbers.
use mathlib.Core.Path.{◌≡◌}
use mathlib.Core.List.{List, [], ◌∷◌}
use Prim.Native.Nat.{ℕ, zero, suc, ◌<◌}
use native.Mathlib.Omega.{arith}
use native.Mathlib.Decide.{dec_lt}
use lib.ListN.{length, get_or, get_or-eq_default}
use denote.Builtin.{u32}
use mir.Val.{Val}
use base.Fml.{Fml}
use denote.Shadow.{shadow}
use denote.Array.{each}
use denote.Laws.{Is}
use denote.Struct.Declared.{row}
use Rattle.rules.specs.Sizes.{max_mutexes, word_size}
use Rattle.record.specs.declared.State.{State}
use Rattle.record.specs.declared.Mutexes.{Mutexes}
use Rattle.record.specs.GoodRecord.{Typed}
use borrow.Author.Rules.{rules}
use Rattle.record.specs.contracts.State as st
use Rattle.record.specs.contracts.Mutexes as mu

-- each element of an array that is owned is a value of its type
each_at : (d : Type 0) (f : d → List Val → Fml) (xs : List d) (us : List Val) (i : ℕ) (z : d) → i < length xs
    → shadow (each d f xs us) → (u : Val) × shadow (f (get_or xs i z) (u ∷ []))
each_at d f [] us i z h p = absurd (omega arith)
each_at d f (x ∷ xs) [] i z h p = absurd p
each_at d f (x ∷ xs) (u ∷ us) zero z h p = (u, p.0)
each_at d f (x ∷ xs) (u ∷ us) (suc i) z h p = each_at d f xs us i z (omega arith) p.1

pub due_word : (s : State) (vs : List Val) → Is (row st.the_type) s vs → (i : ℕ) → get_or s.tasks.due i 0 < word_size
due_word s vs g i =
    let fd = g.1.1.0.1.1.0 in
    elim (dec_lt i (length s.tasks.due)) [
      | yes h ↦ (each_at u32.Denot u32.own_val s.tasks.due fd.0 i 0 h fd.1.1).1.1
      | no h ↦ rw (get_or-eq_default s.tasks.due 0 {n = i} (omega arith)) (omega arith)
    ]

-- the mutexes by themselves
pub owner_long : (m : Mutexes) (vs : List Val) → Is (row mu.the_type) m vs → length m.owner ≡ max_mutexes
owner_long m vs g = search rules

-- what every record of this type has. The part of each length is named: there are more fields than a search looks at.
pub typed : (s : State) (vs : List Val) → Is (row st.the_type) s vs → Typed s
typed s vs g =
    let t = g.1.1.0 in
    let c = g.1.1.1.0 in
    let m = g.1.1.1.1.1.0 in
    let q = g.1.1.1.1.1.1.0 in
    let r = g.1.1.1.1.1.1.1.0 in
    let w = g.1.1.1.1.1.1.1.1.0 in
    record {
      due_length = t.1.1.0.1.0.1;
      priority_length = t.1.1.1.0.1.0.1;
      level_length = t.1.1.1.1.0.1.0.1;
      outcome_length = t.1.1.1.1.1.0.1.0.1;
      wait_length = t.1.1.1.1.1.1.0.1.0.1;
      object_length = t.1.1.1.1.1.1.1.0.1.0.1;
      timed_length = t.1.1.1.1.1.1.1.1.0.1.0.1;
      kind_length = m.1.1.0.1.0.1;
      owner_length = m.1.1.1.0.1.0.1;
      count_length = c.1.1.0.1.0.1;
      maximum_length = c.1.1.1.0.1.0.1;
      width_length = q.1.1.0.1.0.1;
      depth_length = q.1.1.1.0.1.0.1;
      queue_owner_length = q.1.1.1.1.0.1.0.1;
      oldest_length = q.1.1.1.1.1.0.1.0.1;
      used_length = q.1.1.1.1.1.1.0.1.0.1;
      ready_length = r.1.1.0.1.0.1;
      waiting_length = w.1.1.0.1.0.1;
      due_word = due_word s vs g;
      clock_word = search rules;
      hold_byte = g.1.1.1.1.1.1.1.1.1.1.0.1;
    }
