-- The refusals that a lock, a pend, a send and a receive share, one by one or as one number.
use Rattle.std.specs.Prelude.{◌≡◌, true, false, cond, ℕ, leb, eqb}
use Rattle.std.proofs.Math.Path.{refl}
use Rattle.std.proofs.Math.Logic.{inl, inr}
use Rattle.lists.specs.TestLaws.{which}
use Rattle.machine.specs.Machine.{answer_in, is_time, caller_refusal, called_by, timed_refusal, lock_on, lock_step, pend_on, pend_step, width_at, may_take, receive_on, receive_step, send_on, send_step}
use Rattle.record.specs.Reads.{queue_owner_at}
use Rattle.record.specs.declared.State.{State}  -- keep
use Rattle.record.specs.declared.Plan.{Plan}  -- keep

module _ (k : State) (n object t : ℕ) (o : Plan) where
  -- the shape of both steps
  abbrev asked : Plan
  asked = called_by k (cond (leb n object) (answer_in k 6 0) (cond (is_time t) o (answer_in k 7 0)))

  abbrev no : ℕ
  no = timed_refusal k.started k.running n object t

  by_number : asked ≡ cond (eqb no 0) o (answer_in k no 0)
  unfolding called_by timed_refusal
  by_number = elim (which (eqb (caller_refusal k.started k.running) 0)) [
    | inl e ↦ elim (which (leb n object)) [
      | inl f ↦ rw (e, f) refl
      | inr f ↦ elim (which (is_time t)) [ inl g ↦ rw (e, f, g) refl | inr g ↦ rw (e, f, g) refl ]
    ]
    | inr e ↦ rw (e, e) refl
  ]

  timed_refused : eqb no 0 ≡ false → asked ≡ answer_in k no 0
  timed_refused e = rw e at by_number

  timed_passed : eqb no 0 ≡ true → asked ≡ o
  timed_passed e = rw e at by_number

-- each of them
module _ (k : State) (m t : ℕ) where
  pub lock_refused : eqb (timed_refusal k.started k.running k.mutexes.n m t) 0 ≡ false → lock_step k m t ≡ answer_in k (timed_refusal k.started k.running k.mutexes.n m t) 0
  unfolding lock_step
  lock_refused = timed_refused k k.mutexes.n m t (lock_on k m t)

  pub lock_passed : eqb (timed_refusal k.started k.running k.mutexes.n m t) 0 ≡ true → lock_step k m t ≡ lock_on k m t
  unfolding lock_step
  lock_passed = timed_passed k k.mutexes.n m t (lock_on k m t)

  pub pend_refused : eqb (timed_refusal k.started k.running k.semaphores.n m t) 0 ≡ false → pend_step k m t ≡ answer_in k (timed_refusal k.started k.running k.semaphores.n m t) 0
  unfolding pend_step
  pend_refused = timed_refused k k.semaphores.n m t (pend_on k m t)

  pub pend_passed : eqb (timed_refusal k.started k.running k.semaphores.n m t) 0 ≡ true → pend_step k m t ≡ pend_on k m t
  unfolding pend_step
  pend_passed = timed_passed k k.semaphores.n m t (pend_on k m t)

  pub receive_refused : eqb (timed_refusal k.started k.running k.queues.n m t) 0 ≡ false → receive_step k m t ≡ answer_in k (timed_refusal k.started k.running k.queues.n m t) 0
  unfolding receive_step
  receive_refused = timed_refused k k.queues.n m t _

  pub receive_passed : eqb (timed_refusal k.started k.running k.queues.n m t) 0 ≡ true
      → receive_step k m t ≡ cond (may_take (queue_owner_at k.queues m) k.running) (receive_on k m t) (answer_in k 10 0)
  unfolding receive_step
  receive_passed = timed_passed k k.queues.n m t _

  pub send_refused : (count : ℕ) → eqb (timed_refusal k.started k.running k.queues.n m t) 0 ≡ false → send_step k m t count ≡ answer_in k (timed_refusal k.started k.running k.queues.n m t) 0
  unfolding send_step
  send_refused count = timed_refused k k.queues.n m t _

  pub send_passed : (count : ℕ) → eqb (timed_refusal k.started k.running k.queues.n m t) 0 ≡ true
      → send_step k m t count ≡ cond (eqb count (width_at k.queues m)) (send_on k m t) (answer_in k 7 0)
  unfolding send_step
  send_passed count = timed_passed k k.queues.n m t _
