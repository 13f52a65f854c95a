-- All calls for a text that arrives in pieces: for each piece on from line's end to line's end, and one where nothing more arrives.
use Rattle.std.specs.Prelude.{ℕ, zero, suc, List, [], ◌∷◌, ◌++◌, cond, ltb, length}
use Rattle.arrive.specs.Arrive.{Arrival}
use Rattle.arrive.specs.Feed.{fed, carry_after, last_found, arrivals_of}

-- the carry, how many bytes it holds, and what was handed on
pub record Calls : Type 0 where
  pub carry : List ℕ
  pub held : ℕ
  pub handed : List Arrival

abbrev pub no_call : List ℕ → ℕ → Calls
no_call carry held = record { carry = carry; held = held; handed = [] }

-- what was handed on before is put in front
abbrev pub behind_arrivals : List Arrival → Calls → Calls
behind_arrivals es c = record { carry = c.carry; held = c.held; handed = es ++ c.handed }

-- the calls for one piece from place `at` on, at most as many as the fuel
unfoldable pub calls : ℕ → List ℕ → ℕ → List ℕ → ℕ → Calls
calls zero carry held bytes at = no_call carry held
calls (suc fuel) carry held bytes at =
    cond (ltb at (length bytes))
    (behind_arrivals (arrivals_of (carry_after carry held bytes at) bytes (fed carry held bytes at).found)
    (calls fuel (carry_after carry held bytes at) (fed carry held bytes at).held bytes (fed carry held bytes at).next))
    (no_call carry held)

-- a piece takes at most as many calls as it has bytes
abbrev pub piece_calls : List ℕ → ℕ → List ℕ → Calls
piece_calls carry held bytes = calls (length bytes) carry held bytes 0

-- all that is handed on
unfoldable pub all_handed : List ℕ → ℕ → List (List ℕ) → List Arrival
all_handed carry held [] = arrivals_of carry [] (last_found carry held)
all_handed carry held (a ∷ rest) =
    (piece_calls carry held a).handed ++ all_handed (piece_calls carry held a).carry (piece_calls carry held a).held rest
