-- Tests that answer a Bool: conjunction, disjunction, and a test of every number below a bound.
use Rattle.std.specs.Prelude.{Bool, true, false, ℕ, zero, suc, eqb}
use Rattle.std.proofs.Math.Option.{Option, none, some}

-- a conjunction that stays a call, so that its parts can be read off
infixr 35 ◌and◌
unfoldable pub ◌and◌ : Bool → Bool → Bool
true and b = b
false and b = false

infixr 30 ◌or◌
unfoldable pub ◌or◌ : Bool → Bool → Bool
true or b = true
false or b = b

-- every number below n passes
unfoldable pub allb : ℕ → (ℕ → Bool) → Bool
allb zero p = true
allb (suc n) p = p n and allb n p

-- there is one
unfoldable pub someb : {A : Type 0} → Option A → Bool
someb none = false
someb (some x) = true

-- o is i
unfoldable pub holds : Option ℕ → ℕ → Bool
holds none i = false
holds (some k) i = eqb k i
