-- The calls hand on a text's lines, each over-long one marked, in whatever pieces the text arrives.
use Rattle.std.specs.Prelude.{◌≡◌, refl, ℕ, zero, suc, ◌+◌, ◌≤◌, ltb, length, drop}
use Rattle.std.proofs.Common.{sym, ◌∙◌, inl, inr, arith, drop_of_length-le, ltb-true, ltb-false}
use mathlib.Core.List.{List, [], ◌∷◌, map, flatten}
use Rattle.arrive.specs.Arrive.{arrivals, unended_after, arrived, marked}
use Rattle.arrive.specs.ArriveLaws.{arrived_lines}
use Rattle.arrive.specs.Calls.{Calls, no_call, calls, piece_calls, all_handed}
use Rattle.arrive.specs.Feed.{unended_of, fed, carry_after}
use Rattle.arrive.specs.FeedArrivalLaws.{of_none, feed_length, feed_on, feed_arrivals, feed_after, last_arrival}
use Rattle.text.specs.Lines.{lines}
use Rattle.lists.specs.TestLaws.{which}

-- what calls for the bytes t come to, from the line that had begun
pub record Right (carry : List ℕ) (held : ℕ) (t : List ℕ) (c : Calls) : Type 0 where
  pub size : length c.carry ≡ length carry
  pub handed : c.handed ≡ arrivals (length carry) (unended_of carry held) t
  pub begun : unended_of c.carry c.held ≡ unended_after (length carry) (unended_of carry held) t

none_right : (carry : List ℕ) (held : ℕ) → Right carry held [] (no_call carry held)
unfolding arrivals unended_after
none_right carry held = record { size = refl; handed = refl; begun = refl }

pub calls_right : (fuel : ℕ) (carry : List ℕ) (held : ℕ) (bytes : List ℕ) (at : ℕ) → length bytes ≤ at + fuel → Right carry held (drop at bytes) (calls fuel carry held bytes at)
unfolding calls
calls_right zero carry held bytes at h = rw (drop_of_length-le bytes (let k : length bytes ≤ at = omega arith in k)) (none_right carry held)
calls_right (suc fuel) carry held bytes at h = elim (which (ltb at (length bytes))) [
  | inl e ↦
      let on = feed_on carry held bytes at (ltb-true _ _ e) in
      let r = calls_right fuel (carry_after carry held bytes at) (fed carry held bytes at).held bytes (fed carry held bytes at).next (omega arith) in
      let n = feed_length carry held bytes at in
      rw e (record {
        size = r.size ∙ n;
        handed = rw (r.handed, n) (sym (feed_arrivals carry held bytes at));
        begun = rw (r.begun, n) (sym (feed_after carry held bytes at));
      })
  | inr e ↦ rw (e, drop_of_length-le bytes (ltb-false at (length bytes) e)) (none_right carry held)
]

pub handed_arrived : (carry : List ℕ) (held : ℕ) (parts : List (List ℕ)) → all_handed carry held parts ≡ arrived (length carry) (unended_of carry held) parts
unfolding all_handed arrived
handed_arrived carry held [] = last_arrival carry held
handed_arrived carry held (a ∷ rest) =
    let r = calls_right (length a) carry held a 0 (omega arith) in
    let c = piece_calls carry held a in
    rw (handed_arrived c.carry c.held rest, r.size, r.begun, r.handed)

-- so from the start of a text the calls hand on its lines
pub handed_lines : (carry : List ℕ) (parts : List (List ℕ)) → all_handed carry 0 parts ≡ map (marked (length carry)) (lines (flatten parts))
handed_lines carry parts = handed_arrived carry 0 parts ∙ rw (of_none carry) (arrived_lines (length carry) parts)
