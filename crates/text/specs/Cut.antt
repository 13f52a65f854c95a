-- A text cut into pieces at each byte of one kind.
use Rattle.std.specs.Prelude.{ℕ, ◌+◌, ◌≡◌, List, [], ◌∷◌, ◌++◌, cond, eqb, length, drop}

-- what stands before the first b: all of it where there is none
unfoldable pub up_to : ℕ → List ℕ → List ℕ
up_to b [] = []
up_to b (c ∷ cs) = cond (eqb c b) [] (c ∷ up_to b cs)

-- the first b from place `at` on, or else the end of the text
abbrev pub find_from : ℕ → List ℕ → ℕ → ℕ
find_from b text at = at + length (up_to b (drop at text))

-- l holds no b
abbrev pub Free : ℕ → List ℕ → Type 0
Free b l = up_to b l ≡ l

-- the first piece with c in front of it
abbrev pub on_first : ℕ → List (List ℕ) → List (List ℕ)
on_first c [] = (c ∷ []) ∷ []
on_first c (p ∷ ps) = (c ∷ p) ∷ ps

-- the pieces of a text, each ended by a b or by the text's end; behind the last b stand those of `last`
unfoldable pub pieces : ℕ → List (List ℕ) → List ℕ → List (List ℕ)
pieces b last [] = last
pieces b last (c ∷ cs) = cond (eqb c b) ([] ∷ pieces b last cs) (on_first c (pieces b last cs))

-- each piece behind a b
unfoldable pub behind : ℕ → List (List ℕ) → List ℕ
behind b [] = []
behind b (p ∷ ps) = b ∷ p ++ behind b ps

-- the pieces with a b between each two
unfoldable pub joined : ℕ → List (List ℕ) → List ℕ
joined b [] = []
joined b (p ∷ ps) = p ++ behind b ps
