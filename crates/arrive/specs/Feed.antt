-- Cutting arriving bytes with a carry: what each call answers, and what the carry then holds.
use Rattle.std.specs.Prelude.{ℕ, ◌+◌, ◌-◌, List, [], ◌∷◌, cond, eqb, leb, ltb, length, take, drop}
use Rattle.arrive.specs.Arrive.{Arrival, Line, Long, Unended, Held, Over}
use Rattle.text.specs.Lines.{line_from, line_end}
use Rattle.text.specs.Place.{room, put_bytes}
use Rattle.arrive.specs.declared.Fed.{Fed}
use Rattle.arrive.specs.declared.Found.{Found}
use Rattle.arrive.specs.declared.Found.TheVariants as found

-- the line that has begun: the carry's first `held` bytes, or one that is too long for it
unfoldable pub unended_of : List ℕ → ℕ → Unended
unended_of carry held = cond (leb held (length carry)) (Held (take held carry)) Over

-- how many bytes are held with a part more: more than the carry's length where there is no room
unfoldable pub kept_len : List ℕ → ℕ → List ℕ → ℕ
kept_len carry held part = cond (room carry held part) (held + length part) (length carry + 1)

-- the line that ends with a part: the part itself where nothing was held, else in the carry, or over-long
unfoldable pub line_found : List ℕ → ℕ → List ℕ → ℕ → ℕ → Found
line_found carry held part start end =
    cond (room carry held part) (cond (eqb held 0) (found.Part start end) (found.Carried (held + length part))) found.Long

-- the carry then: a part that is the whole line isn't copied
unfoldable pub line_carry : List ℕ → ℕ → List ℕ → List ℕ
line_carry carry held part = cond (eqb held 0) carry (put_bytes carry held part)

-- the answer from place `at` on: a line's end, behind which nothing is held, or none, and the part is held
unfoldable pub fed : List ℕ → ℕ → List ℕ → ℕ → Fed
fed carry held bytes at =
    cond (ltb (line_end bytes at) (length bytes))
    (record {
      found = line_found carry held (line_from bytes at) at (line_end bytes at);
      next = line_end bytes at + 1;
      held = 0;
    })
    (record { found = found.Nothing; next = line_end bytes at; held = kept_len carry held (line_from bytes at) })

-- the carry then
unfoldable pub carry_after : List ℕ → ℕ → List ℕ → ℕ → List ℕ
carry_after carry held bytes at =
    cond (ltb (line_end bytes at) (length bytes)) (line_carry carry held (line_from bytes at)) (put_bytes carry held (line_from bytes at))

-- the answer where nothing more arrives
unfoldable pub last_found : List ℕ → ℕ → Found
last_found carry held = cond (eqb held 0) found.Nothing (cond (leb held (length carry)) (found.Carried held) found.Long)

-- the line that was found, where it lies
abbrev pub found_line : List ℕ → List ℕ → Found → List ℕ
found_line carry bytes (found.Part start end) = take (end - start) (drop start bytes)
found_line carry bytes (found.Carried n) = take n carry
found_line carry bytes found.Long = []
found_line carry bytes found.Nothing = []

-- what an answer hands on
abbrev pub arrivals_of : List ℕ → List ℕ → Found → List Arrival
arrivals_of carry bytes (found.Part start end) = Line (found_line carry bytes (found.Part start end)) ∷ []
arrivals_of carry bytes (found.Carried n) = Line (found_line carry bytes (found.Carried n)) ∷ []
arrivals_of carry bytes found.Long = Long ∷ []
arrivals_of carry bytes found.Nothing = []
