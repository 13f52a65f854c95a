-- Bytes that arrive in any pieces, cut into lines: the machine that takes one byte at a time.
use Rattle.std.specs.Prelude.{ℕ, List, [], ◌∷◌, ◌++◌, cond, eqb, leb, ltb, length}
use Rattle.text.specs.Lines.{lf}

-- what is handed on: a line without its LF, or that a line was longer than the maximum
pub data Arrival : Type 0 where
  Line : List ℕ → Arrival
  Long : Arrival

-- the line that has begun: its bytes so far, or that they are over the maximum already
pub data Unended : Type 0 where
  Held : List ℕ → Unended
  Over : Unended

-- one byte more of the line
unfoldable pub grown : ℕ → Unended → ℕ → Unended
grown most (Held b) c = cond (ltb (length b) most) (Held (b ++ (c ∷ []))) Over
grown most Over c = Over

-- the line as it is handed on where it ends
abbrev pub closed : Unended → Arrival
closed (Held b) = Line b
closed Over = Long

-- what is handed on while a text arrives: at each LF the line that ends there, and a new one begins
unfoldable pub arrivals : ℕ → Unended → List ℕ → List Arrival
arrivals most s [] = []
arrivals most s (c ∷ cs) = cond (eqb c lf) (closed s ∷ arrivals most (Held []) cs) (arrivals most (grown most s c) cs)

-- the line that has begun when it has arrived
unfoldable pub unended_after : ℕ → Unended → List ℕ → Unended
unended_after most s [] = s
unended_after most s (c ∷ cs) = cond (eqb c lf) (unended_after most (Held []) cs) (unended_after most (grown most s c) cs)

-- what is handed on where nothing follows: a last line without LF counts, and nothing follows a final LF
unfoldable pub finished : Unended → List Arrival
finished (Held []) = []
finished (Held (c ∷ b)) = Line (c ∷ b) ∷ []
finished Over = Long ∷ []

-- all that is handed on of a text that arrives in pieces
unfoldable pub arrived : ℕ → Unended → List (List ℕ) → List Arrival
arrived most s [] = finished s
arrived most s (a ∷ rest) = arrivals most s a ++ arrived most (unended_after most s a) rest

-- a line as it is to be handed on: "Lines over 80 bytes without the LF" are over-long at a maximum of 80, and so for any maximum (160 in document 02)
unfoldable pub marked : ℕ → List ℕ → Arrival
marked most l = cond (leb (length l) most) (Line l) Long
