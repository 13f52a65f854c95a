-- Words copied to the front of a part and zeros filled in behind them.
use Rattle.std.proofs.Common.{◌≡◌, ℕ, ◌+◌, ◌-◌, ◌≤◌, List, ◌++◌, length, take, drop, refl, ap, ◌∙◌, arith, append_assoc, length-append}
use Rattle.std.proofs.Math.Seq.{take-length}
use Rattle.std.proofs.lemmas.List.{length-replicate}
use Rattle.std.proofs.lemmas.Slice.{put_mid-paste, take-put_mid, drop-put_mid}
use Rattle.std.specs.Prelude.{replicate}
use borrow.Rule.Slice.PartMut.{put_mid}
use Rattle.lists.specs.Table.{pad}
use Rattle.rings.specs.Words.{laid, padded}

-- zs are as many zeros as there is room for behind ws
pub laid_parts : (l ws zs : List ℕ) (at n k : ℕ) → at + n ≤ length l → length ws ≤ n → zs ≡ replicate k 0 → k ≡ n - length ws
    → put_mid (at + length ws) (at + n - (at + length ws)) (put_mid at (at + length ws - at) l ws) zs ≡ laid l at (padded n ws)
unfolding pad
laid_parts l ws zs at n k h w z r =
    let m : ℕ = length ws in
    let e : length zs ≡ n - m = ap length z ∙ length-replicate k 0 ∙ r in
    let s : List ℕ = put_mid at (at + m - at) l ws in
    let front : take (at + m) s ≡ take at l ++ ws = take-put_mid at (at + m - at) l ws (at + m) refl (omega arith) in
    let back : drop (at + m + (n - m)) s ≡ drop (at + m + (n - m)) l = drop-put_mid at (at + m - at) l ws (at + m + (n - m)) (omega arith) (omega arith) (omega arith) in
    let whole : zs ≡ replicate (n - m) 0 = z ∙ ap (λ (j : ℕ). replicate j 0) r in
    let long : at + m + (n - m) ≡ at + length (ws ++ zs) = omega (arith, length-append ws zs, e) in
    put_mid-paste (at + m) (at + n - (at + m)) s zs zs (length zs) refl (omega arith) refl
    ∙ rw (front, take-length zs, e, back, long, append_assoc (take at l) ws zs, whole) refl
