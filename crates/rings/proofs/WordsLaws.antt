-- Laws of words in lent memory.
use Rattle.std.specs.Prelude.{◌≡◌, List, ◌++◌, ℕ, ◌+◌, ◌-◌, ◌≤◌, length, get_or, take, drop, refl}
use Rattle.std.proofs.Common.{ap, sym, ◌∙◌, append-nil, inl, inr, arith, length-append, length-drop, take-append-drop, length-take-le, drop_at, take-add, get_or-take, get_or-drop}
use Rattle.std.proofs.lemmas.List.{take-append-le, drop-append-le}
use Rattle.std.proofs.Math.Seq.{drop-append-add, take-length, paste}
use Rattle.lists.specs.Table.{pad}
use Rattle.rings.specs.Words.{words, laid, padded, Off}

words_front : (x y : List ℕ) (at n : ℕ) → at + n ≤ length x → words at n (x ++ y) ≡ words at n x
words_front x y at n h =
    ap (take n) (drop-append-le at x y (omega arith)) ∙ take-append-le n (drop at x) y (omega (arith, length-drop at x))

words_behind : (x y : List ℕ) (m at n : ℕ) → length x ≡ m → m ≤ at → words at n (x ++ y) ≡ words (at - m) n y
words_behind x y m at n e h =
    let f : at ≡ length x + (at - m) = omega arith in
    ap (λ (k : ℕ). words k n (x ++ y)) f ∙ ap (take n) (drop-append-add x y (at - m))

pub length_words : (l : List ℕ) (at n : ℕ) → at + n ≤ length l → length (words at n l) ≡ n
length_words l at n h = length-take-le n (drop at l) (omega (arith, length-drop at l))

module _ (l : List ℕ) (at : ℕ) (ws : List ℕ) (fits : at + length ws ≤ length l) where
  front : length (take at l) ≡ at
  front = length-take-le at l (omega arith)

  fronts : length (take at l ++ ws) ≡ at + length ws
  fronts = omega (arith, length-append (take at l) ws, front)

  pub length_laid : length (laid l at ws) ≡ length l
  length_laid = omega (arith, length-append (take at l ++ ws) (drop (at + length ws) l), fronts, length-drop (at + length ws) l)

  -- the words laid are there
  pub laid_same : words at (length ws) (laid l at ws) ≡ ws
  laid_same =
      words_front (take at l ++ ws) (drop (at + length ws) l) at (length ws) (omega (arith, fronts))
      ∙ ap (take (length ws)) (drop_at (take at l) ws at front)
      ∙ take-length ws

  -- any others are the old ones
  pub laid_other : (i n : ℕ) → Off i n at (length ws) → words i n (laid l at ws) ≡ words i n l
  laid_other i n o = elim o [
    | inl h ↦
        words_front (take at l ++ ws) (drop (at + length ws) l) i n (omega (arith, fronts))
        ∙ words_front (take at l) ws i n (omega (arith, front))
        ∙ sym (words_front (take at l) (drop at l) i n (omega (arith, front)))
        ∙ ap (words i n) (take-append-drop at l)
    | inr h ↦
        let e = at + length ws in
        words_behind (take at l ++ ws) (drop e l) e i n fronts h
        ∙ sym (words_behind (take e l) (drop e l) e i n (length-take-le e l fits) h)
        ∙ ap (words i n) (take-append-drop e l)
  ]

-- a part written back where it stood
pub laid_back : (b : List ℕ) (at n : ℕ) → at + n ≤ length b → laid b at (words at n b) ≡ b
laid_back b at n h =
    let e : length (words at n b) ≡ n = length_words b at n h in
    ap (λ (k : ℕ). take at b ++ words at n b ++ drop (at + k) b) e
    ∙ ap (λ (l : List ℕ). l ++ drop (at + n) b) (sym (take-add at n b))
    ∙ take-append-drop (at + n) b

-- a single word
word_of : (l : List ℕ) (i : ℕ) → get_or (words i 1 l) 0 0 ≡ get_or l i 0
word_of l i = get_or-take 1 (drop i l) 0 0 (omega arith) ∙ get_or-drop i l 0 0 ∙ ap (λ (k : ℕ). get_or l k 0) (omega arith)

pub laid_word : (l : List ℕ) (at : ℕ) (ws : List ℕ) → at + length ws ≤ length l → (i : ℕ) → Off i 1 at (length ws)
    → get_or (laid l at ws) i 0 ≡ get_or l i 0
laid_word l at ws h i o = sym (word_of (laid l at ws) i) ∙ ap (λ (x : List ℕ). get_or x 0 0) (laid_other l at ws h i 1 o) ∙ word_of l i

-- words that need no zeros
pub padded_full : (n : ℕ) (ws : List ℕ) → length ws ≡ n → padded n ws ≡ ws
unfolding pad
padded_full n ws e = (let z : n - length ws ≡ 0 = omega arith in rw z (append-nil ws))

-- a copy of all of ws is ws laid
pub paste_all : (l : List ℕ) (at : ℕ) (ws : List ℕ) (n : ℕ) → length ws ≡ n → paste l at ws n ≡ laid l at ws
paste_all l at ws n e = rw (← e, take-length ws) refl
