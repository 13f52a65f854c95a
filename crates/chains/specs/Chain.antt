-- Chains of a partial map on numbers. Nothing here knows of tasks or of a table's size.
use Rattle.std.specs.Prelude.{◌≡◌, List, [], ◌∷◌, Bool, true, false, ℕ, zero, suc, ◌<◌}
use Rattle.std.proofs.Math.Option.{Option, none, some}

-- l is the whole chain from o, which ends
pub data Chain (next : ℕ → Option ℕ) : Option ℕ → List ℕ → Type 0 where
  end : Chain next none []
  link : {i : ℕ} {l : List ℕ} → Chain next (next i) l → Chain next (some i) (i ∷ l)

-- the chain from o ends
abbrev pub Ends : (ℕ → Option ℕ) → Option ℕ → Type 0
Ends next o = (l : List ℕ) × Chain next o l

-- k stands on the chain from o
pub data From (next : ℕ → Option ℕ) : Option ℕ → ℕ → Type 0 where
  here : {k : ℕ} → From next (some k) k
  on : {i k : ℕ} → From next (next i) k → From next (some i) k

-- the chain from o, at most as long as the fuel
unfoldable pub walk : ℕ → (ℕ → Option ℕ) → Option ℕ → List ℕ
walk zero next o = []
walk (suc f) next none = []
walk (suc f) next (some i) = i ∷ walk f next (next i)

-- the chain from o ends within the fuel
unfoldable pub endsb : ℕ → (ℕ → Option ℕ) → Option ℕ → Bool
endsb zero next none = true
endsb zero next (some i) = false
endsb (suc f) next none = true
endsb (suc f) next (some i) = endsb f next (next i)

-- a map among the numbers below n whose chains all end
pub record Ended (n : ℕ) (next : ℕ → Option ℕ) : Type 0 where
  pub ends : (i : ℕ) → Ends next (some i)
  pub to : (i j : ℕ) → next i ≡ some j → j < n
  pub of : (i j : ℕ) → next i ≡ some j → i < n
