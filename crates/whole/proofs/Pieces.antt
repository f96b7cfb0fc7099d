-- The pieces of w numbers each of a list, one after the other, as a loop over them meets them.
use Rattle.std.proofs.Common.{◌≡◌, ℕ, zero, suc, ◌+◌, ◌-◌, ◌*◌, ◌/◌, ◌<◌, ◌≤◌, Bool, true, false, List, [], ◌∷◌, ◌++◌, length, get_or, take, drop, Option, Some, None, Bor, sym, refl, ap, subst, ◌∙◌, append_assoc, append-nil, arith, length-append}
use mathlib.Core.Logic.{inl, inr}
use native.Mathlib.Nat.{mul-div-le}
use lib.Seq.{length-take-le, drop-drop, get_or-take, get_or-drop}
use Rattle.std.proofs.lemmas.List.{take_at, drop_at, drop-take, take_rest, take-append-drop}
use Rattle.std.specs.declared.iter.Zip.{Zip}
use Rattle.std.specs.declared.slice.ChunksExact.{ChunksExact}
use Rattle.std.specs.Fn.{Called}
use Rattle.std.specs.Iterator.{Yields, YieldsThen}
use Rattle.std.specs.Iterator.Adapters.{zip_first, zip_second, zip_steps}
use Rattle.std.specs.List.{FoldsTo}
use Rattle.std.specs.Option.{MatchOption}
use Rattle.std.specs.Slice.Iter.{chunks_exact_rest, chunks_exact_size, chunks_exact_steps}
use denote.Param.Members.{Mut}
use Rattle.whole.specs.Sum.{all}
use Rattle.whole.proofs.Tests.{all_stop, all_more}

-- j of n were met: what is left is the list from there on, with fewer than w numbers behind the pieces, up to a tail that is not lent
pub record Pieces {A : Type 0} (w n : ℕ) (l : List A) (j : ℕ) (s : ChunksExact A) : Type 0 where
  pub left : ℕ
  pub count : j + left ≡ n
  pub size : chunks_exact_size s ≡ w
  pub enough : w * left ≤ length (chunks_exact_rest s)
  pub few : length (chunks_exact_rest s) < w * left + w
  pub tail : List A
  pub rest : chunks_exact_rest s ++ tail ≡ drop (w * j) l

-- none yet: of the first n,
pub pieces_none : {A : Type 0} (w n : ℕ) (l : List A) {s : ChunksExact A} → 0 < w → w * n ≤ length l → chunks_exact_size s ≡ w → chunks_exact_rest s ≡ take (w * n) l → Pieces w n l 0 s
pieces_none w n l {s} some fit e f =
    let long : length (chunks_exact_rest s) ≡ w * n = ap length f ∙ length-take-le (w * n) l fit in
    let none : 0 ≡ w * 0 = omega arith in
    record {
      left = n;
      count = omega arith;
      size = e;
      enough = omega (arith, long);
      few = omega (arith, long, some);
      tail = drop (w * n) l;
      rest = ap (λ x. x ++ drop (w * n) l) f ∙ take-append-drop (w * n) l ∙ ap (λ k. drop k l) none;
    }

-- and of all that are whole
pub pieces_whole : {A : Type 0} (w : ℕ) (l : List A) {s : ChunksExact A} → 0 < w → chunks_exact_size s ≡ w → chunks_exact_rest s ≡ l → Pieces w (length l / w) l 0 s
pieces_whole w l {s} some e f =
    let long : length (chunks_exact_rest s) ≡ length l = ap length f in
    let none : 0 ≡ w * 0 = omega arith in
    record {
      left = length l / w;
      count = omega arith;
      size = e;
      enough = omega (arith, long, mul-div-le (length l) w);
      few = omega (arith, long, some);
      tail = [];
      rest = append-nil (chunks_exact_rest s) ∙ f ∙ ap (λ k. drop k l) none;
    }

one_left : {w k m : ℕ} → w ≤ m → m < w * k + w → (i : ℕ) × (k ≡ suc i)
one_left {k = zero} g h = absurd (omega (arith, g, h))
one_left {k = suc i} g h = (i, refl)

next : (w i : ℕ) → w * suc i ≡ w + w * i
next w i = omega arith

module _ {A : Type 0} {w n : ℕ} {l : List A} {j : ℕ} {s : ChunksExact A} (P : Pieces w n l j s) where
  -- one more
  pub piece_met : {t : ChunksExact A} {r : Option (Bor (List A))} (x : Bor (List A)) → r ≡ Some x → chunks_exact_steps s r t → (j < n) × (x.now ≡ take w (drop (w * j) l)) × Pieces w n l (j + 1) t
  piece_met {t} x e h =
      let g = rw e at h in
      let size : length x.now ≡ w = g.1.1 ∙ P.size in
      let long : length (chunks_exact_rest s) ≡ w + length (chunks_exact_rest t) = ap length g.1.0 ∙ length-append x.now (chunks_exact_rest t) ∙ ap (λ k. k + length (chunks_exact_rest t)) size in
      let k = one_left {w = w} {k = P.left} (omega (arith, long)) P.few in
      let more : w * P.left ≡ w + w * k.0 = ap (λ i. w * i) k.1 ∙ next w k.0 in
      let begun : x.now ++ (chunks_exact_rest t ++ P.tail) ≡ drop (w * j) l = sym (append_assoc x.now (chunks_exact_rest t) P.tail) ∙ ap (λ y. y ++ P.tail) (sym g.1.0) ∙ P.rest in
      let after : w * j + w ≡ w * (j + 1) = omega arith in (
        omega (arith, P.count, k.1),
        sym (take_at x.now (chunks_exact_rest t ++ P.tail) w size) ∙ ap (take w) begun,
        record {
          left = k.0;
          count = omega (arith, P.count, k.1);
          size = g.0 ∙ P.size;
          enough = omega (arith, P.enough, long, more);
          few = omega (arith, P.few, long, more);
          tail = P.tail;
          rest = sym (drop_at x.now (chunks_exact_rest t ++ P.tail) w size) ∙ ap (drop w) begun ∙ drop-drop w (w * j) l ∙ ap (λ i. drop i l) after;
        },
      )

  -- or no more
  pub pieces_met : (t : ChunksExact A) {r : Option (Bor (List A))} → r ≡ None → chunks_exact_steps s r t → j ≡ n
  pieces_met t e h = go P.left P.count P.enough
    where
      short : length (chunks_exact_rest s) < w
      short = omega (arith, (rw e at h).1.0, P.size)

      go : (k : ℕ) → j + k ≡ n → w * k ≤ length (chunks_exact_rest s) → j ≡ n
      go zero q g = omega arith
      go (suc k) q g = absurd (omega (arith, next w k, short))

-- two lists of n pieces each, met together: they end together
pub pairs_met : {A B : Type 0} {w v n : ℕ} {l : List A} {m : List B} {j : ℕ} {s : Zip (ChunksExact A) (ChunksExact B)} (t : Zip (ChunksExact A) (ChunksExact B)) {r : Option (Bor (List A) × Bor (List B))}
    → Pieces w n l j (zip_first s) → Pieces v n m j (zip_second s) → r ≡ None → zip_steps chunks_exact_steps chunks_exact_steps s r t → j ≡ n
pairs_met t P Q e h = elim (rw e at h) [ inl x ↦ pieces_met P x.0 refl x.1 | inr x ↦ pieces_met Q x.0 refl x.1 ]

-- ---- a piece, in the places of the list
module _ {A : Type 0} (w j : ℕ) (l : List A) {x : List A} (e : x ≡ take w (drop (w * j) l)) where
  pub piece_at : (i : ℕ) (a : A) → i < w → get_or x i a ≡ get_or l (w * j + i) a
  piece_at i a h = ap (λ x. get_or x i a) e ∙ get_or-take w (drop (w * j) l) i a h ∙ get_or-drop (w * j) l i a

  pub piece_first : (a : A) → 0 < w → get_or x 0 a ≡ get_or l (w * j) a
  piece_first a some = let z : w * j + 0 ≡ w * j = omega arith in piece_at 0 a some ∙ ap (λ i. get_or l i a) z

  -- the numbers behind its first
  pub piece_rest : 0 < w → take (length x - 1) (drop 1 x) ≡ take (w * j + w - (w * j + 1)) (drop (w * j + 1) l)
  piece_rest some =
      let a : w ≡ 1 + (w - 1) = omega arith in
      let b : w - 1 ≡ w * j + w - (w * j + 1) = omega arith in
      take_rest x 1 ∙ ap (drop 1) (e ∙ ap (λ k. take k (drop (w * j) l)) a) ∙ drop-take 1 (w - 1) (drop (w * j) l) ∙ ap (take (w - 1)) (drop-drop 1 (w * j) l) ∙ ap (λ k. take k (drop (w * j + 1) l)) b

-- ---- a test of each, where the test says of piece j what f j says
module _ {A F : Type 0} (w n : ℕ) (l : List A) (some : 0 < w) (fit : w * n ≤ length l) {g : Mut F (Bor (List A) × Unit {0}) Bool} (test : F) (f : ℕ → Bool)
    (says : (j : ℕ) → j < n → (x : Bor (List A)) → x.now ≡ take w (drop (w * j) l) → (b : Bool) (q : F) → Called g test (x, tt) b q → (q ≡ test) × (b ≡ f j)) where
  from : {r : Bool} (t u : ChunksExact A) (h : F) (o : Option (Bor (List A))) (xs : List (Bor (List A))) (j : ℕ) {s : ChunksExact A} → Pieces w n l j s → all j f ≡ true
      → Yields chunks_exact_steps s xs t → chunks_exact_steps t o u → FoldsTo (λ p x q. Called g p (x, tt) true q) test xs h
      → MatchOption o (r ≡ true) (λ x. (r ≡ false) × ((q : F) × Called g h (x, tt) false q)) → r ≡ all n f
  from t u h None [] j P a y z c m = m ∙ sym (subst (λ i. all i f ≡ true) (pieces_met (subst (Pieces w n l j) y P) u refl z) a)
  from t u h (Some x) [] j P a y z c m =
      let p = piece_met (subst (Pieces w n l j) y P) {t = u} x refl z in
      m.0 ∙ sym (all_stop n f j p.0 (sym (says j p.0 x p.1 false m.1.0 (subst (λ (q : F). Called g q (x, tt) false m.1.0) (sym c) m.1.1)).1))
  from t u h o (x ∷ xs) j P a y z c m =
      let p = piece_met P x refl y.1 in
      let k = says j p.0 x p.1 true c.0 c.1 in
      from t u h o xs (j + 1) p.2 (all_more j f a (sym k.1)) y.2 z (subst (λ (q : F). FoldsTo (λ p x q. Called g p (x, tt) true q) q xs h) k.0 c.2) m

  pub all_pieces : {r : Bool} {s : ChunksExact A} (u : ChunksExact A) → chunks_exact_size s ≡ w → chunks_exact_rest s ≡ take (w * n) l
      → (xs : List (Bor (List A))) × (o : Option (Bor (List A))) × (h : F) × YieldsThen chunks_exact_steps s xs o u × FoldsTo (λ p x q. Called g p (x, tt) true q) test xs h
      × MatchOption o (r ≡ true) (λ x. (r ≡ false) × ((q : F) × Called g h (x, tt) false q))
      → r ≡ all n f
  unfolding all
  all_pieces u e d R = from R.3.0 u R.2 R.1 R.0 0 (pieces_none w n l some fit e d) refl R.3.1 R.3.2 R.4 R.5
