-- Pouring rows into a table, one after the other: what holds after all of them and after the first few of them, and that each may be
-- added where all together have room.
use mathlib.Core.Path.{◌≡◌, refl, sym, ap, ◌∙◌, subst}
use mathlib.Core.Bool.{cond}
use mathlib.Core.List.{List, [], ◌∷◌, ◌++◌, append_assoc, map-append}
use Prim.Native.Nat.{ℕ, suc, ◌+◌, ◌*◌, ◌≤◌, ◌<◌}
use native.Mathlib.Omega.{arith}
use lib.IntN.{ℤ, +ℤ_idr, +ℤ_assoc, pos, ◌+ℤ◌}
use lib.Signed.{◌≤ℤ◌, ≤ℤ_refl}
use lib.Dec.{eqb}
use Rattle.whole.specs.Lists.{All, Each}
use Rattle.whole.specs.Sum.{over}
use Rattle.whole.proofs.Linear.{on, difs, ints}
use Rattle.whole.proofs.Sum.{over_append}
use Rattle.lattice.specs.Limits.{most_W, most_readings}
use Rattle.table.specs.Table.{Settings, Table, Row, rows, found, mass_of, keys_of}
use Rattle.table.specs.Sound.{Good, Ranged}
use Rattle.table.specs.Pour.{append, add, pour, one_if_new, news_in, news}
use Rattle.table.specs.Inner.{Kept, Addable}
use Rattle.table.proofs.Lists.{all_before, all_after, each_before}
use Rattle.table.proofs.Rows.{Apart, Additive}
use Rattle.table.proofs.Adding.{add_kept, add_n, add_m, add_over, add_news}

-- ---- one after the other
pub pour_append : (c : Settings) (t : Table) (a b : List Row) → pour c t (a ++ b) ≡ pour c (pour c t a) b
unfolding pour
pour_append c t [] b = refl
pour_append c t (r ∷ a) b = pour_append c (add c t r) a b

pub pour_snoc : (c : Settings) (t : Table) (a : List Row) (r : Row) → pour c t (a ++ (r ∷ [])) ≡ add c (pour c t a) r
unfolding pour
pour_snoc c t a r = pour_append c t a (r ∷ [])

module _ (c : Settings) (keys : List ℤ) (index : List ℕ) where
  pub news_append : (a b : List (List ℤ)) → news_in c keys index (a ++ b) ≡ news_in c keys index a + news_in c keys index b
  unfolding news_in
  news_append [] b = omega arith
  news_append (k ∷ a) b = ap (λ (n : ℕ). one_if_new c keys index k + n) (news_append a b) ∙ omega arith

  pub news_snoc : (a : List (List ℤ)) (k : List ℤ) → news_in c keys index (a ++ (k ∷ [])) ≡ news_in c keys index a + one_if_new c keys index k
  unfolding news_in
  news_snoc a k = news_append a (k ∷ []) ∙ omega arith

pub news_before : (c : Settings) (t : Table) (a b : List Row) → news c t (keys_of a) ≤ news c t (keys_of (a ++ b))
news_before c t a b = omega (arith, ap (news c t) (map-append (λ (r : Row). r.key) a b), news_append c t.keys t.index (keys_of a) (keys_of b))

-- ---- after all of them
pub record Poured (c : Settings) (t : Table) (rs : List Row) : Type 0 where
  pub kept : Kept c (pour c t rs)
  pub same_n : (pour c t rs).n ≡ t.n
  pub points : (pour c t rs).m ≡ t.m + news c t (keys_of rs)
  pub adds : (f : Row → ℤ) → Additive f → over (rows c (pour c t rs)) f ≡ over (rows c t) f +ℤ over rs f

pub poured : (c : Settings) → 0 < c.C → (rs : List Row) (t : Table) → Kept c t → All (Good c.d) rs → Each Apart rs → t.m + news c t (keys_of rs) ≤ c.C → Poured c t rs
unfolding pour news_in over
poured c some [] t K G A room = record { kept = K; same_n = refl; points = omega arith; adds = λ f F. sym (+ℤ_idr (over (rows c t) f)) }
poured c some (r ∷ rs) t K G A room =
    let fits : found c t r.key ≡ 0 → t.m < c.C = room_one in
    let n : news c (add c t r) (keys_of rs) ≡ news c t (keys_of rs) = add_news c some t K r G.0 fits rs A.0 in
    let m = add_m c some t K r G.0 fits in
    let P = poured c some rs (add c t r) (add_kept c some t K r G.0 fits) G.1 A.1 (omega (arith, n, m)) in
    record {
      kept = P.kept;
      same_n = P.same_n ∙ add_n c some t K r G.0 fits;
      points = P.points ∙ omega (arith, n, m);
      adds = λ f F. P.adds f F ∙ ap (λ (z : ℤ). z +ℤ over rs f) (add_over c some t K r G.0 fits f F) ∙ +ℤ_assoc (over (rows c t) f) (f r) (over rs f);
    }
  where
    room_one : found c t r.key ≡ 0 → t.m < c.C
    room_one e = let h : t.m + (cond (eqb 0 0) 1 0 + news c t (keys_of rs)) ≤ c.C = subst (λ (x : ℕ). t.m + (cond (eqb x 0) 1 0 + news c t (keys_of rs)) ≤ c.C) e room in omega arith

-- ---- rows that may be poured: good ones of different points, for which there is room, and no more mass than 4,096 readings have
pub record Pourable (c : Settings) (t : Table) (rs : List Row) : Type 0 where
  pub ranged : Ranged c
  pub kept : Kept c t
  pub good : All (Good c.d) rs
  pub apart : Each Apart rs
  pub room : t.m + news c t (keys_of rs) ≤ c.C
  pub light : (over (rows c t) mass_of +ℤ over rs mass_of) ≤ℤ pos (most_W * most_readings)

pub masses_low : (d : ℕ) (rs : List Row) → All (Good d) rs → pos 0 ≤ℤ over rs mass_of
unfolding over
masses_low d [] G = ≤ℤ_refl (pos 0)
masses_low d (r ∷ rs) G = lin r.mass (over rs mass_of) G.0.some (masses_low d rs G.1)
  where
    lin : (a b : ℤ) → pos 1 ≤ℤ a → pos 0 ≤ℤ b → pos 0 ≤ℤ (a +ℤ b)
    lin = on _ λ a b. on _ λ c d. simp difs (omega ints)

-- after the first few of them
before_all : (c : Settings) (t : Table) (a b : List Row) → Pourable c t (a ++ b) → Poured c t a
before_all c t a b P = poured c P.ranged.C_least a t P.kept (all_before (Good c.d) a b P.good) (each_before Apart a b P.apart) (omega (arith, news_before c t a b, P.room))

pub poured_all : (c : Settings) (t : Table) (rs : List Row) → Pourable c t rs → Poured c t rs
poured_all c t rs P = poured c P.ranged.C_least rs t P.kept P.good P.apart P.room

-- the next of them
next_addable : (c : Settings) (t : Table) (a : List Row) (r : Row) (b : List Row) → Pourable c t (a ++ (r ∷ b)) → Addable c (pour c t a) r
unfolding over news_in append
next_addable c t a r b P = record {
  ranged = P.ranged;
  kept = B.kept;
  good = good.0;
  room = room;
  light = lin (over (rows c t) mass_of) (over a mass_of) r.mass (over b mass_of) (over (rows c (pour c t a)) mass_of) (over (a ++ (r ∷ b)) mass_of) (pos (most_W * most_readings))
      (masses_low c.d b good.1) (B.adds mass_of (λ x y e. refl)) (over_append a (r ∷ b) mass_of) P.light;
}
  where
    B : Poured c t a
    B = before_all c t a (r ∷ b) P

    good : All (Good c.d) (r ∷ b)
    good = all_after (Good c.d) a (r ∷ b) P.good

    more : found c (pour c t a) r.key ≡ 0 → (add c (pour c t a) r).m ≡ suc (pour c t a).m
    more e = rw e refl

    split : (a ++ (r ∷ [])) ++ b ≡ a ++ (r ∷ b)
    split = append_assoc a (r ∷ []) b

    B' : Poured c t (a ++ (r ∷ []))
    B' = before_all c t (a ++ (r ∷ [])) b (subst (Pourable c t) (sym split) P)

    room : found c (pour c t a) r.key ≡ 0 → (pour c t a).m < c.C
    room e = omega (arith, more e, ap (λ (u : Table). u.m) (pour_snoc c t a r), B'.points, news_before c t (a ++ (r ∷ [])) b, ap (λ (l : List Row). news c t (keys_of l)) split, P.room)

    lin : (x a r b u s w : ℤ) → pos 0 ≤ℤ b → u ≡ x +ℤ a → s ≡ a +ℤ (r +ℤ b) → (x +ℤ s) ≤ℤ w → (u +ℤ r) ≤ℤ w
    lin = on _ λ a b. on _ λ c d. on _ λ e f. on _ λ g h. on _ λ i j. on _ λ k l. on _ λ m n. simp difs (omega ints)

pub addable : (c : Settings) (t : Table) (rs a : List Row) (r : Row) (b : List Row) → Pourable c t rs → rs ≡ a ++ (r ∷ b) → Addable c (pour c t a) r
addable c t rs a r b P e = next_addable c t a r b (subst (Pourable c t) e P)
