-- Laws of the oldest message taken.
use Rattle.std.specs.Prelude.{◌≡◌, List, ◌∷◌, ℕ, suc, ◌+◌, ◌-◌, ◌*◌, ◌≤◌, ◌<◌, length}
use Rattle.std.proofs.Common.{ap, sym, ◌∙◌, arith}
use Rattle.lists.specs.Table.{filled}
use Rattle.lists.specs.TableLaws.{filled_ext}
use Rattle.rings.specs.Words.{words}
use Rattle.rings.specs.Ring.{Ring, message, messages, Sits, fewer}
use Rattle.rings.proofs.FilledLaws.{filled_cons}
use Rattle.rings.proofs.RingLaws.{slot_in, slot_next}

-- the messages are the oldest one and then those of the queue without it
pub take_first : (b : List ℕ) (r : Ring) → Sits (length b) r → 1 ≤ r.used → messages b r ≡ message b r 0 ∷ messages b (fewer r)
take_first b r sits any =
    let e : r.used ≡ suc (r.used - 1) = omega arith in
    ap (λ (n : ℕ). filled n (message b r)) e
    ∙ filled_cons (r.used - 1) (message b r)
    ∙ ap (λ l. message b r 0 ∷ l) (filled_ext (r.used - 1) _ _ (λ k l. next k (omega (arith, sits.filled_to))))
  where
    next : (k : ℕ) → k < r.depth → message b r (suc k) ≡ message b (fewer r) k
    next k h = ap (λ (s : ℕ). words (r.at + r.width * s) r.width b) (sym (slot_next r.oldest r.depth k sits.first h))

-- the queue without it sits as before
pub take_sits : (n : ℕ) (r : Ring) → Sits n r → Sits n (fewer r)
take_sits n r sits =
    record {
      some = sits.some;
      first = slot_in r.oldest r.depth 1 sits.first (omega (arith, sits.first));
      filled_to = omega (arith, sits.filled_to);
      within = sits.within;
    }
