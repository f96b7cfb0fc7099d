-- Pieces of w numbers each of a list, met from the last of the first n down.
use Rattle.std.proofs.Common.{◌≡◌, ℕ, zero, suc, ◌+◌, ◌-◌, ◌*◌, ◌%◌, ◌<◌, ◌≤◌, Bool, true, false, List, [], ◌∷◌, ◌++◌, length, take, drop, Option, Some, None, Bor, sym, refl, ap, ap₂, subst, ◌∙◌, append_assoc, arith, length-append, length-drop}
use Rattle.std.proofs.Math.Seq.{take-add, take-length}
use Rattle.std.proofs.Math.Nat.{mul-mod_right}
use native.Mathlib.Nat.{mul-le-mul_left}
use lib.Seq.{length-take-le}
use Rattle.std.proofs.lemmas.List.{take_at, drop_at}
use Rattle.std.specs.declared.slice.ChunksExact.{ChunksExact}
use Rattle.std.specs.Fn.{Called}
use Rattle.std.specs.Iterator.{Yields, YieldsThen}
use Rattle.std.specs.List.{FoldsTo}
use Rattle.std.specs.Option.{MatchOption, IsSomeAnd, IfSome}
use Rattle.std.specs.Slice.Iter.{chunks_exact_rest, chunks_exact_size}
use Rattle.std.specs.Slice.Exact.{chunks_exact_steps_back}
use denote.Param.Members.{Mut}
use Rattle.withdraw.specs.Inner.{counted}
use Rattle.withdraw.proofs.Downward.{Downward, sought_low, sought_none, sought_here, sought_below}

-- j of them are left
pub record Firsts {A : Type 0} (w : ℕ) (l : List A) (j : ℕ) (s : ChunksExact A) : Type 0 where
  pub size : chunks_exact_size s ≡ w
  pub rest : chunks_exact_rest s ≡ take (w * j) l

one_left : {w k : ℕ} → 0 < w → w ≤ w * k → (m : ℕ) × (k ≡ suc m)
one_left {k = zero} s g = absurd (omega arith)
one_left {k = suc m} s g = (m, refl)

none_left : {w : ℕ} (k : ℕ) → w * k < w → k ≤ 0
none_left zero g = omega arith
none_left {w} (suc k) g = absurd (let e : w * suc k ≡ w * k + w = omega arith in omega arith)

module _ {A : Type 0} (w n : ℕ) (l : List A) (some : 0 < w) (fit : w * n ≤ length l) {j : ℕ} (low : j ≤ n) {s : ChunksExact A} (P : Firsts w l j s) where
  long : length (chunks_exact_rest s) ≡ w * j
  long = ap length P.rest ∙ length-take-le (w * j) l (let h : w * j ≤ w * n = mul-le-mul_left w low in omega arith)

  back_met : (t : ChunksExact A) {r : Option (Bor (List A))} (x : Bor (List A)) → r ≡ Some x → chunks_exact_steps_back s r t → (0 < j) × (x.now ≡ take w (drop (w * (j - 1)) l)) × Firsts w l (j - 1) t
  back_met t x e h =
      let g = rw e at h in
      let after = g.2.0 in
      let none : length after ≡ 0 = g.2.3 ∙ ap₂ ◌%◌ long P.size ∙ mul-mod_right w j in
      let size : length x.now ≡ w = g.2.2 ∙ P.size in
      let k = one_left some (omega (arith, long, ap length g.2.1, length-append (chunks_exact_rest t ++ x.now) after, length-append (chunks_exact_rest t) x.now)) in
      let m = k.0 in
      let down : m ≡ j - 1 = omega (arith, k.1) in
      let more : w * j ≡ w * m + w = ap (λ i. w * i) k.1 ∙ next w m in
      let front : length (chunks_exact_rest t) ≡ w * m = omega (arith, long, ap length g.2.1, length-append (chunks_exact_rest t ++ x.now) after, length-append (chunks_exact_rest t) x.now) in
      let behind : length (take (w * m) l) ≡ w * m = length-take-le (w * m) l (let h : w * j ≤ w * n = mul-le-mul_left w low in omega arith) in
      let own : length (take w (drop (w * m) l)) ≡ w = length-take-le w (drop (w * m) l) (let h : w * j ≤ w * n = mul-le-mul_left w low in omega (arith, length-drop (w * m) l)) in
      let parts : chunks_exact_rest t ++ (x.now ++ after) ≡ take (w * m) l ++ take w (drop (w * m) l) = sym (append_assoc (chunks_exact_rest t) x.now after) ∙ sym g.2.1 ∙ P.rest ∙ ap (λ i. take i l) more ∙ take-add (w * m) w l in (
        omega (arith, k.1),
        sym (take_at x.now after w size) ∙ ap (take w) (sym (drop_at (chunks_exact_rest t) (x.now ++ after) (w * m) front) ∙ ap (drop (w * m)) parts ∙ drop_at (take (w * m) l) (take w (drop (w * m) l)) (w * m) behind)
            ∙ ap (λ i. take i (take w (drop (w * m) l))) (sym own) ∙ take-length (take w (drop (w * m) l)) ∙ ap (λ i. take w (drop (w * i) l)) down,
        record {
          size = g.0 ∙ P.size;
          rest = sym (take_at (chunks_exact_rest t) (x.now ++ after) (w * m) front) ∙ ap (take (w * m)) parts ∙ take_at (take (w * m) l) (take w (drop (w * m) l)) (w * m) behind ∙ ap (λ i. take (w * i) l) down;
        },
      )
    where
      next : (w m : ℕ) → w * suc m ≡ w * m + w
      next w m = omega arith

  none_met : (t : ChunksExact A) {r : Option (Bor (List A))} → r ≡ None → chunks_exact_steps_back s r t → j ≤ 0
  none_met t e h = none_left {w = w} j (omega (arith, long, P.size, (rw e at h).2.0))

-- the last that passes a test, where the test says of piece j what f j says
module _ {A F : Type 0} (w n : ℕ) (l : List A) (some : 0 < w) (fit : w * n ≤ length l) {g : Mut F (Bor (List A) × Unit {0}) Bool} (test : F) {sought : ℕ → ℕ} {f : ℕ → Bool} (D : Downward sought f)
    (says : (j : ℕ) → j < n → (x : Bor (List A)) → x.now ≡ take w (drop (w * j) l) → (b : Bool) (q : F) → Called g test (x, tt) b q → (q ≡ test) × (b ≡ f j)) where
  from : (all : ℕ) (r : Option ℕ) (t u : ChunksExact A) (h : F) (o : Option (Bor (List A))) (xs : List (Bor (List A))) (j : ℕ) {s : ChunksExact A} → j ≤ n → j + all ≡ n + length xs → Firsts w l j s → sought n ≡ sought j
      → Yields chunks_exact_steps_back s xs t → chunks_exact_steps_back t o u → FoldsTo (λ p x q. Called g p (x, tt) false q) test xs h
      → MatchOption o (r ≡ None) (λ x. IsSomeAnd r (λ i. i + 1 + all ≡ n) × ((q : F) × Called g h (x, tt) true q)) → counted r ≡ sought n
  from all r t u h None [] j low e P inv y z c m = ap counted m ∙ sought_none D n j inv (none_met w n l some fit low (subst (Firsts w l j) y P) u refl z)
  from all None t u h (Some x) [] j low e P inv y z c m = absurd m.0
  from all (Some i) t u h (Some x) [] j low e P inv y z c m =
      let p = back_met w n l some fit low (subst (Firsts w l j) y P) u x refl z in
      let b = says (j - 1) (omega (arith, p.0)) x p.1 true m.1.0 (subst (λ (q : F). Called g q (x, tt) true m.1.0) (sym c) m.1.1) in
      let at : i ≡ j - 1 = omega (arith, m.0, e, p.0) in
      ap suc at ∙ sought_here D n j inv p.0 (sym b.1)
  from all r t u h o (x ∷ xs) j low e P inv y z c m =
      let p = back_met w n l some fit low P y.0 x refl y.1 in
      let k = says (j - 1) (omega (arith, p.0)) x p.1 false c.0 c.1 in
      from all r t u h o xs (j - 1) (omega arith) (omega (arith, e, p.0)) p.2 (sought_below D n j inv p.0 (sym k.1)) y.2 z (subst (λ (q : F). FoldsTo (λ p x q. Called g p (x, tt) false q) q xs h) k.0 c.2) m

  pub last_of : {r : Option ℕ} {s : ChunksExact A} (u : ChunksExact A) {all : ℕ} → all ≡ n → chunks_exact_size s ≡ w → chunks_exact_rest s ≡ take (w * n - 0) l
      → (xs : List (Bor (List A))) × (o : Option (Bor (List A))) × (h : F) × YieldsThen chunks_exact_steps_back s xs o u × FoldsTo (λ p x q. Called g p (x, tt) false q) test xs h
      × MatchOption o (r ≡ None) (λ x. IsSomeAnd r (λ i. i + 1 + length xs ≡ all) × ((q : F) × Called g h (x, tt) true q))
      → counted r ≡ sought n
  last_of {r} {s} u a e d R =
      let full : chunks_exact_rest s ≡ take (w * n) l = d ∙ (let z : w * n - 0 ≡ w * n = omega arith in ap (λ k. take k l) z) in
      from (length R.0) r R.3.0 u R.2 R.1 R.0 n (omega arith) refl (record { size = e; rest = full }) refl R.3.1 R.3.2 R.4 (subst (λ k. MatchOption R.1 (r ≡ None) (λ x. IsSomeAnd r (λ i. i + 1 + length R.0 ≡ k) × ((q : F) × Called g R.2 (x, tt) true q))) a R.5)

-- it is one of the first n
pub counted_low : {f : ℕ → ℕ} {test : ℕ → Bool} → Downward f test → (n : ℕ) (r : Option ℕ) → counted r ≡ f n → IfSome r (λ i. i < n)
counted_low D n None e = tt
counted_low D n (Some i) e = sought_low D n i (sym e)
