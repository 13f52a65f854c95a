-- Laws of plans: a refusal, and a step on a sound record, come to what the step is defined to give.
use Rattle.std.specs.Prelude.{◌≡◌, List, Bool, true, false, ℕ, length}
use Rattle.std.proofs.Math.Path.{refl, ap, sym}
use Rattle.std.proofs.Common.{subst, ◌∙◌, inl, inr}
use Rattle.std.proofs.Math.Option.{none}
use Rattle.lists.specs.TestLaws.{which}
use Rattle.rules.specs.Answer.{is_formed}
use Rattle.record.specs.Whole.{whole}
use Rattle.record.specs.StepRecord.{step_for, answer_for, stays, standing_by, standing_in, step_by}
use Rattle.machine.specs.Machine.{machine_step}
use Rattle.machine.specs.Planned.{carried}
use Rattle.machine.proofs.MachineLaws.{sound_step}
use Rattle.kernel.specs.Planning.{formed_by, unmoved, planned, Gives}
use Rattle.record.specs.declared.State.{State}  -- keep
use Rattle.record.specs.declared.Answer.{Answer}  -- keep
use Rattle.record.specs.declared.Plan.{Plan}  -- keep
use Rattle.record.specs.declared.Request.{Request}  -- keep
use Rattle.record.specs.declared.Request.TheVariants.{Task, Mutex, Sem, Start, Lock, Unlock, Pend, Post, Flush, Sleep, Yield, Hold, Free, Tick, Level, Outcome, Queue, OwnedQueue, Send, Receive, Word}  -- keep

pub formed_same : (x : Request) (m : List ℕ) → formed_by x (length m) ≡ is_formed (step_for x m)
unfolding formed_by is_formed step_for
formed_same (Task p) m = refl
formed_same (Mutex k) m = refl
formed_same (Sem count max) m = refl
formed_same Start m = refl
formed_same (Lock j t) m = refl
formed_same (Unlock j) m = refl
formed_same (Pend k t) m = refl
formed_same (Post k) m = refl
formed_same (Flush k) m = refl
formed_same (Sleep t) m = refl
formed_same Yield m = refl
formed_same Hold m = refl
formed_same Free m = refl
formed_same Tick m = refl
formed_same (Level i) m = refl
formed_same (Outcome i) m = refl
formed_same (Queue w d) m = refl
formed_same (OwnedQueue w d o) m = refl
formed_same (Send q t) m = refl
formed_same (Receive q t) m = refl
formed_same (Word i j) m = refl

module _ (sound : Bool) (k : State) (words : List ℕ) (space : ℕ) (x : Request) (count : ℕ) where
  pub malformed_gives : formed_by x count ≡ false → (a : Answer) → a ≡ answer_for 14 0 (standing_by sound k) → Gives sound k words space x count (unmoved k a)
  unfolding carried step_by stays standing_in
  malformed_gives bad a e m block l n K = rw (sym (formed_same x m), l, bad) (λ i. record { whole = whole k words block; answer = (e ∙ ap (λ b. answer_for 14 0 (standing_by b k)) K.truth) i })

  pub unsound_gives : formed_by x count ≡ true → sound ≡ false → (a : Answer) → a ≡ answer_for 15 0 none → Gives sound k words space x count (unmoved k a)
  unfolding carried step_by stays
  unsound_gives good bad a e m block l n K = rw (sym (formed_same x m), l, good, sym K.truth, bad) (λ i. record { whole = whole k words block; answer = e i })

  pub performed_gives : formed_by x count ≡ true → sound ≡ true → (p : Plan) → p ≡ machine_step k x count space words → Gives sound k words space x count p
  performed_gives good is p e m block l n K =
      let s = sym K.truth ∙ is in
      ap (carried (whole k words block) m) (e ∙ ap (λ z. machine_step k x z space words) (sym l) ∙ ap (λ z. machine_step k x (length m) z words) (sym n))
      ∙ sound_step (whole k words block) K.typed s x m (sym (formed_same x m) ∙ ap (formed_by x) l ∙ good)

  -- the cases of what is planned
  to_perform : formed_by x count ≡ true → sound ≡ true → planned sound k x count space words ≡ machine_step k x count space words
  unfolding planned
  to_perform good is = rw (good, is) refl

  to_unsound : formed_by x count ≡ true → sound ≡ false → planned sound k x count space words ≡ unmoved k (answer_for 15 0 none)
  unfolding planned
  to_unsound good bad = rw (good, bad) refl

  to_malformed : formed_by x count ≡ false → planned sound k x count space words ≡ unmoved k (answer_for 14 0 (standing_by sound k))
  unfolding planned
  to_malformed bad = rw bad refl

  -- so it comes to the step, where the test said the truth
  pub planned_gives : (p : Plan) → p ≡ planned sound k x count space words → Gives sound k words space x count p
  planned_gives p e = elim (which (formed_by x count)) [
    | inl good ↦ elim (which sound) [
      | inl is ↦ performed_gives good is p (e ∙ to_perform good is)
      | inr bad ↦ subst (Gives sound k words space x count) (sym (e ∙ to_unsound good bad)) (unsound_gives good bad _ refl)
    ]
    | inr bad ↦ subst (Gives sound k words space x count) (sym (e ∙ to_malformed bad)) (malformed_gives bad _ refl)
  ]
