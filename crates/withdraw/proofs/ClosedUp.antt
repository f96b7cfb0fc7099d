-- The book closes up over an entry: what stands behind the entry is copied down over it, then the last entry's place is 0.
use Rattle.std.proofs.Common.{◌≡◌, ℕ, ◌+◌, ◌*◌, ◌-◌, ◌<◌, ◌≤◌, List, ◌++◌, ℤ, pos, length, take, drop, replicate, ap, ◌∙◌, append_assoc, arith, length-drop}
use Rattle.std.proofs.lemmas.List.Edits.{take-paste, drop-paste}
use borrow.Rule.Slice.PartMut.{put_mid}
use lib.Seq.{paste, drop-drop, length-take-le}
use Rattle.book.specs.Withdraw.{closed}

-- w numbers from a on leave, and k stand behind them
over : (w a k : ℕ) (l s : List ℤ) → a + w + k ≤ length l → put_mid (a + k) w (paste l a (drop (a + w) l) k) s ≡ take a l ++ (take k (drop (a + w) l) ++ (s ++ drop (a + w + k) l))
over w a k l s h =
    let behind = drop (a + w) l in
    let p : a ≤ length l = omega arith in
    let q : k ≤ length behind = omega (arith, length-drop (a + w) l) in
    let e : a + k + w ≡ a + w + k = omega arith in
    ap (λ v. v ++ (s ++ drop w (drop (a + k) (paste l a behind k)))) (take-paste l a behind k p q)
    ∙ ap (λ v. (take a l ++ take k behind) ++ (s ++ v)) (ap (drop w) (drop-paste l a behind k p q) ∙ drop-drop w (a + k) l ∙ ap (λ i. drop i l) e)
    ∙ append_assoc (take a l) (take k behind) (s ++ drop (a + w + k) l)

pub closes : (d n j : ℕ) (l m s : List ℤ) → j < n → (d + 3) * n ≤ length l
    → m ≡ paste l ((d + 3) * j) (drop ((d + 3) * j + (d + 3)) l) ((d + 3) * n - ((d + 3) * j + (d + 3))) → length m ≡ length l
    → s ≡ replicate (length (take ((d + 3) * n - ((d + 3) * n - (d + 3))) (drop ((d + 3) * n - (d + 3)) m))) (pos 0)
    → put_mid ((d + 3) * n - (d + 3)) ((d + 3) * n - ((d + 3) * n - (d + 3))) m s ≡ closed d n j l
unfolding closed
closes d n j l m s h fit e size f =
    let w = d + 3 in
    let a = w * j in
    let k = w * (n - 1 - j) in
    let all : w * n ≡ a + w + k = parts w in
    let next : a + w ≡ w * (j + 1) = nexts w in
    let x : w * n - (a + w) ≡ k = omega arith in
    let y : w * n - w ≡ a + k = omega arith in
    let z : w * n - (w * n - w) ≡ w = omega arith in
    let last : length (take (w * n - (w * n - w)) (drop (w * n - w) m)) ≡ w = length-take-le (w * n - (w * n - w)) (drop (w * n - w) m) (omega (arith, length-drop (w * n - w) m)) ∙ z in
    rw (f ∙ ap (λ i. replicate i (pos 0)) last, e, z, y, x, over w a k l (replicate w (pos 0)) (omega arith), ← all, next)
  where
    nexts : (w : ℕ) → w * j + w ≡ w * (j + 1)
    nexts w = omega arith

    parts : (w : ℕ) → w * n ≡ w * j + w + w * (n - 1 - j)
    parts w = let e : n ≡ j + 1 + (n - 1 - j) = omega arith in ap (λ (x : ℕ). w * x) e ∙ go (n - 1 - j)
      where
        go : (x : ℕ) → w * (j + 1 + x) ≡ w * j + w + w * x
        go x = omega arith
