-- Laws of the oldest message of a full queue taken and a new one put in its place: by those of taking and of putting.
use Rattle.std.specs.Prelude.{◌≡◌, List, [], ◌∷◌, ◌++◌, ℕ, suc, ◌+◌, ◌-◌, ◌*◌, length, drop}
use Rattle.std.proofs.Common.{ap, sym, ◌∙◌, arith}
use Rattle.lists.specs.Table.{filled}
use Rattle.rings.specs.Words.{laid}
use Rattle.rings.specs.Ring.{Ring, slot_of, spot, message, messages, Sits, fewer, turned}
use Rattle.rings.proofs.RingLaws.{slot_in, slot_next, slot_all}
use Rattle.rings.proofs.PutLaws.{put_appends}
use Rattle.rings.proofs.TakeLaws.{take_first, take_sits}

module _ (b : List ℕ) (r : Ring) (m : List ℕ) (sits : Sits (length b) r) (full : r.used ≡ r.depth) (size : length m ≡ r.width) where
  -- where the queue without its oldest message has its free place, there that message stood
  free_place : spot (fewer r) (r.used - 1) ≡ spot r 0
  free_place =
      let e : suc (r.used - 1) ≡ r.depth = omega (arith, sits.first) in
      ap (λ (s : ℕ). r.at + r.width * s)
      (slot_next r.oldest r.depth (r.used - 1) sits.first (omega (arith, sits.first))
      ∙ ap (slot_of r.oldest r.depth) e
      ∙ slot_all r.oldest r.depth sits.first)

  appended : messages (laid b (spot r 0) m) (turned r) ≡ messages b (fewer r) ++ (m ∷ [])
  appended =
      let e : r.used ≡ r.used - 1 + 1 = omega (arith, sits.first) in
      ap (λ (n : ℕ). filled n (message (laid b (spot r 0) m) (turned r))) e
      ∙ ap (λ (s : ℕ). filled (r.used - 1 + 1) (message (laid b s m) (turned r))) (sym free_place)
      ∙ put_appends b (fewer r) m (take_sits (length b) r sits) (omega (arith, sits.first)) size

  -- first in, first out
  pub swap_appends : message b r 0 ∷ messages (laid b (spot r 0) m) (turned r) ≡ messages b r ++ (m ∷ [])
  swap_appends =
      ap (λ (l : List (List ℕ)). message b r 0 ∷ l) appended
      ∙ ap (λ (l : List (List ℕ)). l ++ (m ∷ [])) (sym (take_first b r sits (omega (arith, sits.first))))

  -- the same without the message taken
  pub swap_messages : messages (laid b (spot r 0) m) (turned r) ≡ drop 1 (messages b r) ++ (m ∷ [])
  swap_messages =
      appended ∙ ap (λ (l : List (List ℕ)). drop 1 l ++ (m ∷ [])) (sym (take_first b r sits (omega (arith, sits.first))))

-- the queue sits as before
pub swap_sits : (n : ℕ) (r : Ring) → Sits n r → Sits n (turned r)
swap_sits n r sits =
    record {
      some = sits.some;
      first = slot_in r.oldest r.depth 1 sits.first (omega (arith, sits.first));
      filled_to = sits.filled_to;
      within = sits.within;
    }
