-- Links: a chain passes each object once, so that links are no more than objects; and what a lock that meets a taken mutex, or a send that meets a
-- full queue, answers.
use Rattle.std.specs.Prelude.{◌≡◌, Bool, ◌⊎◌, length, get_or}
use Rattle.std.proofs.Math.Path.{refl, ap, subst}
use Rattle.std.proofs.Common.{sym, ◌∙◌}
use mathlib.Core.List.{List, [], ◌∷◌, ◌++◌, map}
use Rattle.std.proofs.Math.Bool.{true, false}
use Rattle.std.proofs.Math.Logic.{inl, inr}
use Rattle.std.proofs.Math.Option.{Option, none, some}
use Prim.Native.Nat.{ℕ, zero, suc, ◌+◌, ◌≤◌, ◌<◌}
use native.Mathlib.Omega.{arith}
use Rattle.std.proofs.Math.ListN.{length-append, get_or-map}
use Rattle.std.proofs.lemmas.List.{length-map}
use Rattle.std.proofs.lemmas.Bool.{not-false}
use Rattle.lists.specs.Test.{someb, holds}
use Rattle.lists.specs.Count.{occ}
use Rattle.lists.specs.TestLaws.{which, clash, by_test, and_l, none_some, some_same, some_true, true_holds}
use Rattle.lists.specs.CountLaws.{occ_head, occ_append, one_place}
use Rattle.lists.specs.Order.{before}
use Rattle.lists.specs.OrderLaws.{before_le, embedded}
use Rattle.lists.specs.TableLaws.{read_any}
use Rattle.chains.specs.Chain.{walk}
use Rattle.chains.specs.ChainLaws.{walk_none, mem_from, from_last, distinct}
use Rattle.rules.specs.Tables.{Awaited, mutex_of, room_in, message_in, time, Wait, Tables, task_count, mutex_count, queue_count, wait_of, owner_of, queue_owner_of}
use Rattle.rules.specs.Levels.{owner_awaited, of_wait, next, chain_of, links_of, best_waiter}
use Rattle.rules.specs.Objects.{awaited_in, behind_owner, objects_from, objects_of}
use Rattle.rules.specs.State.{State}
use Rattle.rules.specs.Step.{lock, send}
use Rattle.rules.specs.Effect.{Effect, caller_waits, lock_by, deliver, send_by, effect}
use Rattle.rules.specs.Refusal.{Row, ◌when◌, links_for, taken, no_room, caller_owns, ring_row, refusals, first_row}
use Rattle.rules.specs.Answer.{step}
use Rattle.rules.specs.Invariant.{Facts, Inv}
use Rattle.rules.proofs.LevelLaws.{of_wait_lem, owner_awaited_lem, chain_whole, links_at_most, links_at_least}
use Rattle.rules.proofs.StepLaws.{passed, called_by_lem, caller_in, of_caller_lem}
use Rattle.rules.proofs.SoundLaws.{inv_sound}
use Rattle.rules.proofs.RefusalLaws.{step_by_lem}

-- the owner of what may be awaited
abbrev owner_in : Tables → Option Awaited → Option ℕ
owner_in t none = none
owner_in t (some a) = owner_awaited t a

next_in_lem : (t : Tables) (w : Option Wait) → of_wait (owner_awaited t) w ≡ owner_in t (awaited_in w)
unfolding of_wait awaited_in
next_in_lem t none = refl
next_in_lem t (some w) = refl

-- the tasks on a chain are the owners of the objects that it passes, one by one
owners_from_lem : (t : Tables) (f : ℕ) (o : Option Awaited) → map (owner_awaited t) (objects_from f t o) ≡ map some (walk f (next t) (owner_in t o))
unfolding objects_from walk behind_owner next
owners_from_lem t zero o = refl
owners_from_lem t (suc f) none = refl
owners_from_lem t (suc f) (some a) = go (owners_from_lem t f) (owner_awaited t a) refl
  where
    go : ((o : Option Awaited) → map (owner_awaited t) (objects_from f t o) ≡ map some (walk f (next t) (owner_in t o))) → (q : Option ℕ) → owner_awaited t a ≡ q → map (owner_awaited t) (behind_owner t a (objects_from f t) q) ≡ map some (walk (suc f) (next t) q)
    go rest none e = refl
    go rest (some i) e = ap (λ x. x ∷ map (owner_awaited t) (objects_from f t (awaited_in (wait_of t i)))) e
        ∙ ap (λ l. some i ∷ l) (rest (awaited_in (wait_of t i)) ∙ ap (λ q. map some (walk f (next t) q)) (sym (next_in_lem t (wait_of t i))))

-- the tasks that own something
named : List (Option ℕ) → List ℕ
named [] = []
named (none ∷ l) = named l
named (some i ∷ l) = i ∷ named l

few_named : (l : List (Option ℕ)) → length (named l) ≤ length l
unfolding named
few_named [] = omega arith
few_named (none ∷ l) = omega (arith, few_named l)
few_named (some i ∷ l) = omega (arith, few_named l)

in_named : (l : List (Option ℕ)) (m i : ℕ) → get_or l m none ≡ some i → 1 ≤ occ i (named l)
unfolding named occ
in_named [] m i e = none_some refl e
in_named (none ∷ l) zero i e = none_some refl e
in_named (none ∷ l) (suc m) i e = in_named l m i e
in_named (some j ∷ l) zero i e = rw (some_same e) (occ_head i (named l))
in_named (some j ∷ l) (suc m) i e = omega (arith, in_named l m i e)

module _ (t : Tables) (F : Facts t) (a : Awaited) where
  pub owners_passed : map (owner_awaited t) (objects_of t a) ≡ map some (chain_of t a)
  unfolding chain_of
  owners_passed = owners_from_lem t (task_count t) (some a)

  pub as_many : length (objects_of t a) ≡ length (chain_of t a)
  as_many = sym (length-map (objects_of t a) (owner_awaited t)) ∙ ap length owners_passed ∙ length-map (chain_of t a) some

  -- the objects that a chain passes are distinct: an object has one owner, and no task stands on a chain twice
  pub objects_distinct : (i j : ℕ) → i < length (objects_of t a) → j < length (objects_of t a) → get_or (objects_of t a) i time ≡ get_or (objects_of t a) j time → i ≡ j
  objects_distinct i j h k e = one_place (chain_of t a) (distinct (chain_whole t F a)) i j (omega (arith, as_many)) (omega (arith, as_many))
      (some_same (sym (owner_at_lem i h) ∙ ap (owner_awaited t) e ∙ owner_at_lem j k))
    where
      owner_at_lem : (i : ℕ) → i < length (objects_of t a) → owner_awaited t (get_or (objects_of t a) i time) ≡ some (get_or (chain_of t a) i 0)
      owner_at_lem i h = sym (get_or-map (owner_awaited t) (objects_of t a) i time)
          ∙ read_any (map (owner_awaited t) (objects_of t a)) i (owner_awaited t time) (some 0) (omega (arith, length-map (objects_of t a) (owner_awaited t)))
          ∙ ap (λ l. get_or l i (some 0)) owners_passed ∙ get_or-map some (chain_of t a) i 0

  -- so a chain has no more tasks than there are objects that may have owners
  pub chain_few : length (chain_of t a) ≤ mutex_count t + queue_count t
  unfolding next
  chain_few = omega (
    arith,
    few_named t.mutexes.owners,
    few_named t.queues.owners,
    length-append (named t.mutexes.owners) (named t.queues.owners),
    embedded owners (chain_of t a) (distinct (chain_whole t F a)) (λ y m. owns y m),
  )
    where
      owners : List ℕ
      owners = named t.mutexes.owners ++ named t.queues.owners

      own : (b : Awaited) (y : ℕ) → owner_awaited t b ≡ some y → 1 ≤ occ y owners
      own b y e = elim (owner_awaited_lem t b y e) [
        | inl r ↦ omega (arith, occ_append y (named t.mutexes.owners) (named t.queues.owners), in_named t.mutexes.owners r.0 y r.1)
        | inr r ↦ omega (arith, occ_append y (named t.mutexes.owners) (named t.queues.owners), in_named t.queues.owners r.0 y r.1)
      ]

      owns : (y : ℕ) → 1 ≤ occ y (chain_of t a) → 1 ≤ occ y owners
      owns y m = elim (from_last (mem_from (chain_whole t F a) y m)) [
        | inl e ↦ own a y e
        | inr r ↦ (let q = of_wait_lem (owner_awaited t) (wait_of t r.0) y r.2 in own q.0 y q.1)
      ]

  -- and so are links
  pub links_few : (r : ℕ) → links_of t r a ≤ mutex_count t + queue_count t
  links_few r = omega (arith, before_le r (chain_of t a), chain_few)

-- a row with another number is not the one that was given
skip : (k : ℕ) (b : Bool) (rs : List Row) (q : Row) → (q.number ≡ 1) ⊎ (q.number ≡ 12) → (k ≡ 1 → ⊥) → (k ≡ 12 → ⊥)
    → first_row ((k when b) ∷ rs) ≡ some q → (b ≡ false) × (first_row rs ≡ some q)
unfolding first_row
skip k b rs q h n n' e = elim (which b) [
  | inl f ↦ (let z : k ≡ q.number = ap (λ x. x.number) (some_same (rw f at e)) in absurd (elim h [ inl u ↦ n (z ∙ u) | inr u ↦ n' (z ∙ u) ]))
  | inr f ↦ (f, rw f at e)
]

last_row : (r q : Row) → first_row (r ∷ []) ≡ some q → (r.when ≡ true) × (r ≡ q)
unfolding first_row
last_row r q = by_test (λ (x : Option Row). x ≡ some q → (r.when ≡ true) × (r ≡ q)) r.when (λ f h. (f, some_same h)) (λ f h. none_some refl h)

-- the value of a lock answered 1 or 12 is the number of links: "1 to 15"
module _ (s : State) (I : Inv s) (m t : ℕ) where
  abbrev pub Linked : ℕ → ℕ → Type 0
  Linked number value = (number ≡ 1) ⊎ (number ≡ 12) → (r : ℕ) × (s.running ≡ some r) × (value ≡ links_of s.tables r (mutex_of m)) × (1 ≤ value) × (value ≤ 15)

  -- the caller meets a mutex that another task owns
  met : (number r o : ℕ) → s.running ≡ some r → owner_of s.tables m ≡ some o → caller_owns s m ≡ false → Linked number (links_of s.tables r (mutex_of m))
  unfolding owner_awaited
  met number r o run own other = λ h. (r, run, refl, links_at_least s.tables I.facts r (mutex_of m) o own (λ e. clash (owner e) other), links_at_most s.tables I.facts r (mutex_of m) (caller_in s I r run))
    where
      owner : o ≡ r → caller_owns s m ≡ true
      owner e = of_caller_lem s.running (holds (owner_of s.tables m)) r run ∙ true_holds (owner_of s.tables m) r (own ∙ ap some e)

  refused_links : (q : Row) → first_row (refusals s (lock m t)) ≡ some q → Linked q.number q.value
  unfolding refusals links_for
  refused_links q e h =
      let a = skip 4 _ _ q h (λ z. omega arith) (λ z. omega arith) e in
      let b = skip 5 _ _ q h (λ z. omega arith) (λ z. omega arith) a.1 in
      let c = skip 6 _ _ q h (λ z. omega arith) (λ z. omega arith) b.1 in
      let d = skip 7 _ _ q h (λ z. omega arith) (λ z. omega arith) c.1 in
      let f = skip 9 _ _ q h (λ z. omega arith) (λ z. omega arith) d.1 in
      let g = skip 3 _ _ q h (λ z. omega arith) (λ z. omega arith) f.1 in
      let k = skip 11 _ _ q h (λ z. omega arith) (λ z. omega arith) g.1 in
      let w = last_row (ring_row s (taken s m) (mutex_of m)) q k.1 in
      let r = some_true s.running (not-false (someb s.running) b.0) in
      let o = some_true (owner_of s.tables m) (and_l _ _ w.0) in
      subst (Linked q.number) (sym (ap (links_for s (mutex_of m)) r.1) ∙ ap (λ x. x.value) w.1) (met q.number r.0 o.0 r.1 o.1 f.0) h

  accepted_links : first_row (refusals s (lock m t)) ≡ none → Linked (effect s (lock m t)).number (effect s (lock m t)).value
  unfolding refusals effect lock_by caller_waits
  accepted_links e =
      let b = passed _ _ (passed _ _ e).1 in
      let f = passed _ _ (passed _ _ (passed _ _ b.1).1).1 in
      called_by_lem (λ y. Linked y.number y.value) s s.running _ b.0 (λ r run. go r run f.0 (owner_of s.tables m) refl)
    where
      go : (r : ℕ) → s.running ≡ some r → caller_owns s m ≡ false → (o : Option ℕ) → owner_of s.tables m ≡ o → Linked (lock_by s m t r o).number (lock_by s m t r o).value
      go r run other none own = λ h. absurd (elim h [ inl z ↦ omega arith | inr z ↦ omega arith ])
      go r run other (some o) own = met 1 r o run own other

  pub lock_links : Linked (step s (lock m t)).number (step s (lock m t)).value
  lock_links = step_by_lem (λ a. Linked a.number a.value) s (lock m t) refused_links accepted_links (λ e. absurd (clash (inv_sound s I) e)) (λ e h. absurd (elim h [ inl z ↦ omega arith | inr z ↦ omega arith ]))

-- document 02, K1: the value of a send answered 1 or 12 is the number of links ("links (send's too)"), none where the queue has no owner
module _ (s : State) (I : Inv s) (q t : ℕ) (m : List ℕ) where
  abbrev pub SendLinked : ℕ → ℕ → Type 0
  SendLinked number value = (number ≡ 1) ⊎ (number ≡ 12) → (r : ℕ) × (s.running ≡ some r) × (value ≡ links_of s.tables r (room_in q)) × (value ≤ 15)

  sent : (number r : ℕ) → s.running ≡ some r → SendLinked number (links_of s.tables r (room_in q))
  sent number r run = λ h. (r, run, refl, links_at_most s.tables I.facts r (room_in q) (caller_in s I r run))

  refused_send : (k : Row) → first_row (refusals s (send q t m)) ≡ some k → SendLinked k.number k.value
  unfolding refusals links_for
  refused_send k e h =
      let a = skip 4 _ _ k h (λ z. omega arith) (λ z. omega arith) e in
      let b = skip 5 _ _ k h (λ z. omega arith) (λ z. omega arith) a.1 in
      let c = skip 6 _ _ k h (λ z. omega arith) (λ z. omega arith) b.1 in
      let d = skip 7 _ _ k h (λ z. omega arith) (λ z. omega arith) c.1 in
      let f = skip 9 _ _ k h (λ z. omega arith) (λ z. omega arith) d.1 in
      let g = skip 3 _ _ k h (λ z. omega arith) (λ z. omega arith) f.1 in
      let j = skip 11 _ _ k h (λ z. omega arith) (λ z. omega arith) g.1 in
      let w = last_row (ring_row s (no_room s q) (room_in q)) k j.1 in
      let r = some_true s.running (not-false (someb s.running) b.0) in
      subst (SendLinked k.number) (sym (ap (links_for s (room_in q)) r.1) ∙ ap (λ x. x.value) w.1) (sent k.number r.0 r.1) h

  delivered : (o : Option ℕ) → SendLinked (deliver s q m o).number (deliver s q m o).value
  unfolding deliver
  delivered none = λ h. absurd (elim h [ inl z ↦ omega arith | inr z ↦ omega arith ])
  delivered (some w) = λ h. absurd (elim h [ inl z ↦ omega arith | inr z ↦ omega arith ])

  accepted_send : first_row (refusals s (send q t m)) ≡ none → SendLinked (effect s (send q t m)).number (effect s (send q t m)).value
  unfolding refusals effect send_by caller_waits
  accepted_send e = called_by_lem (λ y. SendLinked y.number y.value) s s.running _ (passed _ _ (passed _ _ e).1).0 (λ r run.
      by_test (λ (y : Effect). SendLinked y.number y.value) (no_room s q) (λ f. sent 1 r run) (λ f. delivered (best_waiter s.tables (message_in q))))

  pub send_links : SendLinked (step s (send q t m)).number (step s (send q t m)).value
  send_links = step_by_lem (λ a. SendLinked a.number a.value) s (send q t m) refused_send accepted_send (λ e. absurd (clash (inv_sound s I) e))
      (λ e h. absurd (elim h [ inl z ↦ omega arith | inr z ↦ omega arith ]))

  -- none where the queue has no owner
  pub send_unowned : (r : ℕ) → queue_owner_of s.tables q ≡ none → links_of s.tables r (room_in q) ≡ 0
  unfolding chain_of owner_awaited before
  send_unowned r e = rw (e, walk_none (next s.tables) (task_count s.tables)) refl
