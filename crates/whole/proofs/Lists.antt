-- Lists by place: lists made by `tab` and what a store makes of one, a stretch put or copied into a list, lists one after the other. Assumes nothing.
use mathlib.Core.Path.{◌≡◌, refl, ap, ap₂, sym, ◌∙◌}
use mathlib.Core.Logic.{◌≢◌}
use mathlib.Core.List.{List, [], ◌∷◌, ◌++◌, map, map-append, append-nil, append_assoc}
use Prim.Native.Nat.{ℕ, zero, suc, ◌+◌, ◌*◌, ◌-◌, ◌/◌, ◌<◌, ◌≤◌}
use native.Mathlib.Nat.{not-suc-le-zero, le_of_suc-le-suc, mul-le-mul_left, div-add-mod}
use native.Mathlib.Numerals.{add-one}
use native.Mathlib.Decide.{ℕ_discrete, dec_lt}
use native.Mathlib.Omega.{arith}
use lib.IntN.{pos}
use lib.ListN.{length, set, take, drop, get_or, replicate, length-set, length-append, length-drop, length-replicate, drop_of_length-le, get_or-replicate, get_or-append, get_or-eq_default}
use lib.Seq.{paste, paste-zero, paste-suc, take_all, take_at, drop_at, drop-drop, length-take-le, get_or-take, get_or-drop, get_or-append-add, get_or-set_same, get_or-set_other, ext_get_or}
use borrow.Rule.Slice.PartMut.{put_mid}
use Rattle.whole.specs.Lists.{at, tab, collect, splice}

-- ---- part k of parts of w numbers, of as many as n numbers make
pub part_fits : (w n k : ℕ) → k < n / w → w * k + w ≤ n
part_fits w n k l = let h : w * suc k ≤ w * (n / w) = mul-le-mul_left w l in omega (arith, h, div-add-mod n w)

module _ {A : Type 0} where
  -- ---- lists made place by place
  pub length_tab : (n : ℕ) (f : ℕ → A) → length (tab n f) ≡ n
  unfolding tab
  length_tab zero f = refl
  length_tab (suc n) f = ap suc (length_tab n (λ i. f (suc i)))

  pub get_or_tab : (n : ℕ) (f : ℕ → A) (i : ℕ) (a : A) → i < n → get_or (tab n f) i a ≡ f i
  unfolding tab
  get_or_tab zero f i a l = absurd (not-suc-le-zero l)
  get_or_tab (suc n) f zero a l = refl
  get_or_tab (suc n) f (suc i) a l = get_or_tab n (λ i. f (suc i)) i a (le_of_suc-le-suc l)

  pub tab_is : (n : ℕ) (f : ℕ → A) (l : List A) (a : A) → length l ≡ n → ((i : ℕ) → i < n → get_or l i a ≡ f i) → l ≡ tab n f
  tab_is n f l a e h = ext_get_or a l (tab n f) (e ∙ sym (length_tab n f)) (λ i q. let q' : i < n = omega arith in h i q' ∙ sym (get_or_tab n f i a q'))

  pub tab_cong : (n : ℕ) (f g : ℕ → A) → ((i : ℕ) → i < n → f i ≡ g i) → tab n f ≡ tab n g
  unfolding tab
  tab_cong zero f g h = refl
  tab_cong (suc n) f g h = ap (λ (l : List A). f 0 ∷ l) (tab_cong n (λ i. f (suc i)) (λ i. g (suc i)) (λ i l. h (suc i) (omega arith))) ∙ ap (λ (x : A). x ∷ tab n (λ i. g (suc i))) (h 0 (omega arith))

  -- a store at i makes g of f, where the two agree at every other place
  pub set_tab : (n : ℕ) (f g : ℕ → A) (i : ℕ) (v : A) → i < n → v ≡ g i → ((j : ℕ) → j < n → j ≢ i → f j ≡ g j) → set (tab n f) i v ≡ tab n g
  set_tab n f g i v p e h = tab_is n g (set (tab n f) i v) v (length-set (tab n f) i v ∙ length_tab n f) at_each
    where
      at_each : (j : ℕ) → j < n → get_or (set (tab n f) i v) j v ≡ g j
      at_each j q = go (ℕ_discrete j i)
        where
          go : Dec (j ≡ i) → get_or (set (tab n f) i v) j v ≡ g j
          go (yes k) = rw k (get_or-set_same (tab n f) i v v (rw (length_tab n f) p) ∙ e)
          go (no k) = get_or-set_other (tab n f) i j v v k ∙ get_or_tab n f j v q ∙ h j q k

  -- a list filled from the front: the places before i have f, and after a store at i the place i has it too
  pub place_more : (f : ℕ → A) (l : List A) (z : A) (i : ℕ) (v : A) → i < length l → v ≡ f i → ((j : ℕ) → j < i → get_or l j z ≡ f j) → (j : ℕ) → j < i + 1 → get_or (set l i v) j z ≡ f j
  place_more f l z i v h e k j g = go (ℕ_discrete j i)
    where
      go : Dec (j ≡ i) → get_or (set l i v) j z ≡ f j
      go (yes q) = rw q (get_or-set_same l i v z h ∙ e)
      go (no q) = get_or-set_other l i j v z q ∙ k j (omega arith)

  -- ---- a stretch put into a list
  pub length_splice : (l : List A) (a : ℕ) (v : List A) → a + length v ≤ length l → length (splice l a v) ≡ length l
  length_splice l a v h = simp (length-append, length-take-le a l (omega arith), length-drop) (omega arith)

  pub get_or_splice_before : (l : List A) (a : ℕ) (v : List A) (i : ℕ) (z : A) → a ≤ length l → i < a → get_or (splice l a v) i z ≡ get_or l i z
  get_or_splice_before l a v i z h k = get_or-append (take a l) (v ++ drop (a + length v) l) z i (rw (length-take-le a l h) k) ∙ get_or-take a l i z k

  pub past : (l r : List A) (n i : ℕ) (z : A) → length l ≡ n → get_or (l ++ r) (n + i) z ≡ get_or r i z
  past l r n i z e = rw (← e) (get_or-append-add l r i z)

  pub get_or_splice_in : (l : List A) (a : ℕ) (v : List A) (i : ℕ) (z : A) → a ≤ length l → i < length v → get_or (splice l a v) (a + i) z ≡ get_or v i z
  get_or_splice_in l a v i z h k = past (take a l) (v ++ drop (a + length v) l) a i z (length-take-le a l h) ∙ get_or-append v (drop (a + length v) l) z i k

  pub get_or_splice_after : (l : List A) (a : ℕ) (v : List A) (i : ℕ) (z : A) → a ≤ length l → get_or (splice l a v) (a + (length v + i)) z ≡ get_or l (a + length v + i) z
  get_or_splice_after l a v i z h = past (take a l) (v ++ drop (a + length v) l) a (length v + i) z (length-take-le a l h)
      ∙ get_or-append-add v (drop (a + length v) l) i z ∙ get_or-drop (a + length v) l i z

  -- ---- a stretch copied into a list, one store a turn
  pub splice_none : (l : List A) (a : ℕ) → l ≡ splice l a []
  splice_none l a = paste-zero l a [] ∙ same
    where
      same : paste l a [] 0 ≡ splice l a []
      same = append_assoc (take a l) [] (drop (a + 0) l)

  splice_paste : (l : List A) (a : ℕ) (s : List A) (i : ℕ) → i ≤ length s → splice l a (take i s) ≡ paste l a s i
  splice_paste l a s i h = ap (λ (n : ℕ). take a l ++ (take i s ++ drop (a + n) l)) (length-take-le i s h) ∙ sym (append_assoc (take a l) (take i s) (drop (a + i) l))

  pub splice_more : {t : List A} {v : A} (l : List A) (a : ℕ) (s : List A) (i : ℕ) (z : A) → a + i < length l → i < length s → t ≡ splice l a (take i s) → v ≡ get_or s i z → set t (a + i) v ≡ splice l a (take (i + 1) s)
  splice_more l a s i z p q e k = ap₂ (λ (t : List A) (v : A). set t (a + i) v) (e ∙ splice_paste l a s i (omega arith)) k
      ∙ paste-suc l a s i z p q ∙ rw add-one (sym (splice_paste l a s (suc i) q))

  pub splice_all : {t : List A} (l : List A) (a : ℕ) (s : List A) (i : ℕ) → length s ≤ i → t ≡ splice l a (take i s) → t ≡ splice l a s
  splice_all l a s i p e = e ∙ ap (splice l a) (take_all i s p)

  -- a stretch as long as the list is the list
  pub splice_whole : (l v : List A) → length v ≡ length l → splice l 0 v ≡ v
  splice_whole l v e = ap (λ (t : List A). v ++ t) (drop_of_length-le l {i = 0 + length v} (omega arith)) ∙ append-nil v

  -- ---- a stretch put into a list, and another one after it
  module _ (l : List A) (a : ℕ) (v : List A) where
    seam : a ≤ length l → length (take a l ++ v) ≡ a + length v
    seam h = length-append (take a l) v ∙ ap (λ (n : ℕ). n + length v) (length-take-le a l h)

    take_splice : a ≤ length l → take (a + length v) (splice l a v) ≡ take a l ++ v
    take_splice h = rw (← append_assoc) (take_at (take a l ++ v) (drop (a + length v) l) (a + length v) (seam h))

    drop_splice : a ≤ length l → drop (a + length v) (splice l a v) ≡ drop (a + length v) l
    drop_splice h = rw (← append_assoc) (drop_at (take a l ++ v) (drop (a + length v) l) (a + length v) (seam h))

    pub splice_splice : (w : List A) → a + length v + length w ≤ length l → splice (splice l a v) (a + length v) w ≡ splice l a (v ++ w)
    splice_splice w h =
        let k : a ≤ length l = omega arith in
        let n : ℕ = a + length v in
        let s : List A = splice l a v in
        let rest : drop (n + length w) s ≡ drop (n + length w) l = sym (drop-drop (length w) n s) ∙ ap (drop (length w)) (drop_splice k) ∙ drop-drop (length w) n l in
        let same : n + length w ≡ a + length (v ++ w) = omega (arith, length-append v w) in
        ap₂ (λ (x y : List A). x ++ (w ++ y)) (take_splice k) rest ∙ append_assoc (take a l) v (w ++ drop (n + length w) l)
        ∙ ap (λ (x : List A). take a l ++ x) (sym (append_assoc v w (drop (n + length w) l))) ∙ ap (λ (m : ℕ). take a l ++ ((v ++ w) ++ drop m l)) same

  -- ---- a part that was lent, and has come back
  rest : (a n : ℕ) (l : List A) → drop (a + n - a) (drop a l) ≡ drop (a + n) l
  rest a n l = let q : a + n - a ≡ n = omega arith in rw q (drop-drop n a l)

  pub back : (a : ℕ) (l v w : List A) → w ≡ v → put_mid a (a + length v - a) l w ≡ splice l a v
  back a l v w e = rw e (ap (λ (t : List A). take a l ++ (v ++ t)) (rest a (length v) l))

  -- ---- a part as it is lent, place by place
  pub part_tab : (l : List A) (a n : ℕ) (z : A) → a + n ≤ length l → take (a + n - a) (drop a l) ≡ tab n (λ i. get_or l (a + i) z)
  part_tab l a n z h =
      let q : a + n - a ≡ n = omega arith in
      ap (λ (k : ℕ). take k (drop a l)) q ∙ tab_is n (λ i. get_or l (a + i) z) (take n (drop a l)) z
      (length-take-le n (drop a l) (omega (arith, length-drop a l)))
      (λ i h. get_or-take n (drop a l) i z h ∙ get_or-drop a l i z)

  pub part_length : (l : List A) (a n : ℕ) → a + n ≤ length l → length (take (a + n - a) (drop a l)) ≡ n
  part_length l a n h = let q : a + n - a ≡ n = omega arith in ap (λ (k : ℕ). length (take k (drop a l))) q ∙ length-take-le n (drop a l) (omega (arith, length-drop a l))

  -- the start of a list of one number over and over
  pub part_replicate : (n k : ℕ) (a : A) → k ≤ n → take (k - 0) (drop 0 (replicate n a)) ≡ replicate k a
  part_replicate n k a h = let q : k - 0 ≡ k = omega arith in rw q (go n k h)
    where
      go : (n k : ℕ) → k ≤ n → take k (replicate n a) ≡ replicate k a
      go n zero h = refl
      go zero (suc k) h = absurd (not-suc-le-zero h)
      go (suc n) (suc k) h = ap (λ (l : List A). a ∷ l) (go n k (le_of_suc-le-suc h))

  -- ---- lists one after the other
  pub collect_cong : (n : ℕ) (g h : ℕ → List A) → ((k : ℕ) → k < n → g k ≡ h k) → collect n g ≡ collect n h
  unfolding collect
  collect_cong zero g h e = refl
  collect_cong (suc n) g h e = ap₂ ◌++◌ (collect_cong n g h (λ k l. e k (omega arith))) (e n (omega arith))

pub map_collect : {A B : Type 0} (f : A → B) (n : ℕ) (g : ℕ → List A) → map f (collect n g) ≡ collect n (λ k. map f (g k))
unfolding collect
map_collect f zero g = refl
map_collect f (suc n) g = map-append f (collect n g) (g n) ∙ ap (λ (t : List _). t ++ map f (g n)) (map_collect f n g)

-- a list of 0 reads 0 at every place
pub zeros : (n i : ℕ) → at (replicate n (pos 0)) i ≡ pos 0
zeros n i = go (dec_lt i n)
  where
    go : Dec (i < n) → at (replicate n (pos 0)) i ≡ pos 0
    go (yes l) = get_or-replicate n i (pos 0) (pos 0) l
    go (no l) = get_or-eq_default (replicate n (pos 0)) (pos 0) (omega (arith, length-replicate n (pos 0)))
