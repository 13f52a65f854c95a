-- Laws of what steps leave alone: messages in queues, and the words that tasks hold.
use Rattle.std.specs.Prelude.{◌≡◌, [], Bool, true, false, ℕ}
use Rattle.std.proofs.Math.Path.{refl}
use Rattle.std.proofs.Common.{ap, ◌∙◌}
use Rattle.std.proofs.Math.Option.{Option, none, some}
use Rattle.lists.specs.TestLaws.{clash, by_test}
use Rattle.rules.specs.Tables.{Tables, mutex_of, sem_of, owner_of}
use Rattle.rules.specs.Levels.{best_waiter}
use Rattle.rules.specs.State.{State}
use Rattle.rules.specs.Step.{Step, task, mutex, sem, start, lock, unlock, pend, post, flush, sleep, yield, hold, free, tick, level, outcome, queue, send, receive, word}
use Rattle.rules.specs.Effect.{Effect, done, caller_waits, lock_by, pass_on, pend_by, credit, flush_of, tick_of, yield_by, called, effect}
use Rattle.rules.specs.Refusal.{no_credit}
use Rattle.rules.specs.Answer.{step}
use Rattle.rules.proofs.OutcomeLaws.{finish_tables}
use Rattle.rules.proofs.RefusalLaws.{step_by_lem}

-- the steps that make a queue or a task with its words, or move a message
unfoldable pub moves_words : Step → Bool
moves_words (task p) = true
moves_words (queue w d o) = true
moves_words (send q t m) = true
moves_words (receive q t) = true
moves_words (mutex k) = false
moves_words (sem count max) = false
moves_words start = false
moves_words (lock m t) = false
moves_words (unlock m) = false
moves_words (pend k t) = false
moves_words (post k) = false
moves_words (flush k) = false
moves_words (sleep t) = false
moves_words yield = false
moves_words hold = false
moves_words free = false
moves_words tick = false
moves_words (level i) = false
moves_words (outcome i) = false
moves_words (word i n) = false

-- every queue has the messages that it had, and every task the words
module _ (s : State) where
  abbrev Keeps : Effect → Type 0
  Keeps e = (e.state.tables.queues ≡ s.tables.queues) × (e.state.tables.tasks.words ≡ s.tables.tasks.words)

  same : Keeps (done s [] 0)
  same = (refl, refl)

  called_keeps : (o : Option ℕ) (f : ℕ → Effect) → ((r : ℕ) → Keeps (f r)) → Keeps (called s o f)
  unfolding called
  called_keeps none f h = same
  called_keeps (some r) f h = h r

  effect_keeps : (x : Step) → moves_words x ≡ false → Keeps (effect s x)
  unfolding effect moves_words lock_by pass_on pend_by credit flush_of tick_of yield_by caller_waits
  effect_keeps (task p) e = absurd (clash refl e)
  effect_keeps (mutex k) e = same
  effect_keeps (sem count max) e = same
  effect_keeps start e = same
  effect_keeps (lock m t) e = called_keeps s.running _ (λ r. go r (owner_of s.tables m))
    where
      go : (r : ℕ) (o : Option ℕ) → Keeps (lock_by s m t r o)
      go r none = same
      go r (some o) = same
  effect_keeps (unlock m) e = go (best_waiter s.tables (mutex_of m))
    where
      go : (o : Option ℕ) → Keeps (pass_on s m o)
      go none = same
      go (some w) = same
  effect_keeps (pend k t) e = called_keeps s.running _ (λ r. by_test Keeps (no_credit s k) (λ f. same) (λ f. same))
  effect_keeps (post k) e = go (best_waiter s.tables (sem_of k))
    where
      go : (o : Option ℕ) → Keeps (credit s k o)
      go none = same
      go (some w) = same
  effect_keeps (flush k) e = same
  effect_keeps (sleep t) e = called_keeps s.running _ (λ r. same)
  effect_keeps yield e = called_keeps s.running _ (λ r. same)
  effect_keeps hold e = same
  effect_keeps free e = same
  effect_keeps tick e = same
  effect_keeps (level i) e = same
  effect_keeps (outcome i) e = same
  effect_keeps (word i n) e = same
  effect_keeps (queue w d o) e = absurd (clash refl e)
  effect_keeps (send q t m) e = absurd (clash refl e)
  effect_keeps (receive q t) e = absurd (clash refl e)

-- "those it waits to send or those it last received, the rest 0, until the next such wait or receipt": no other step changes a word that is held, or a queue
pub step_keeps : (s : State) (x : Step) → moves_words x ≡ false
    → ((step s x).state.tables.queues ≡ s.tables.queues) × ((step s x).state.tables.tasks.words ≡ s.tables.tasks.words)
step_keeps s x off = step_by_lem (λ a. (a.state.tables.queues ≡ s.tables.queues) × (a.state.tables.tasks.words ≡ s.tables.tasks.words)) s x (λ r e. (refl, refl))
    (λ e. (let k = effect_keeps s x off in (ap (λ (t : Tables). t.queues) (finish_tables s (effect s x)) ∙ k.0, ap (λ (t : Tables). t.tasks.words) (finish_tables s (effect s x)) ∙ k.1)))
    (λ e. (refl, refl)) (λ e. (refl, refl))

-- "A send that timed out never queues its words.": a tick alone ends a wait by its time, and leaves every queue
pub timed_out_unqueued : (s : State) → (step s tick).state.tables.queues ≡ s.tables.queues
unfolding moves_words
timed_out_unqueued s = (step_keeps s tick refl).0
