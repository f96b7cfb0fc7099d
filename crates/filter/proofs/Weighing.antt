-- A sum over the stored points, each weighed for a query, is a sum over the few points of weight above 0. Document 01's own numbers come first.
use mathlib.Core.Path.{◌≡◌, refl, sym, ap, ◌∙◌}
use mathlib.Core.Logic.{◌↔◌}
use mathlib.Core.Bool.{Bool, true, false, not}
use mathlib.Core.List.{List, []}
use Prim.Native.Nat.{ℕ, zero, suc, ◌<◌}
use native.Mathlib.Omega.{arith}
use lib.Dec.{T, eqb, eqb→eq}
use lib.IntN.{ℤ, *ℤ-zero, pos, ◌*ℤ◌}
use lib.ListN.{length, get_or, take}
use lib.Signed.{◌≤ℤ◌, ≤ℤ_refl}
use Rattle.whole.specs.Sum.{sum, over, all}
use Rattle.whole.specs.Lists.{at, tab, collect}
use Rattle.whole.specs.Floor.{floor, remainder}
use Rattle.whole.specs.Rounding.{rounded}
use Rattle.whole.specs.Word.{word}
use Rattle.whole.proofs.Parts.{le_out, eq_in}
use Rattle.whole.proofs.Ring.{*-comm, *-one}
use Rattle.whole.proofs.Sum.{pick, none, one_hit, sum_cong, sum_mul, sum_swap, sum_zero, sum_tight, sum_list}
use Rattle.whole.proofs.Tests.{T_ext, all_at, all_of}
use Rattle.lattice.specs.Limits.{most_W}
use Rattle.lattice.specs.Weight.{W, weight, best, spread}
use Rattle.lattice.specs.Points.{points, weighed, corner, last_of}
use Rattle.lattice.proofs.Points.{all_sum_to_W}
use Rattle.lattice.specs.Refusals.{first}
use Rattle.lattice.specs.Position.{all_near, sums_to_zero}
use Rattle.index.specs.Keys.{eq_z, same, key_at, hash, home}
use Rattle.index.proofs.Equality.{eq-eqb, eq_z_eq, same_eq, eq_same}
use Rattle.index.proofs.Finding.{finds_exactly}
use Rattle.index.specs.Search.{walk, search as sought}
use Rattle.table.specs.Table.{Settings, Table, key, entry, found, whole, mass_of}
use Rattle.table.specs.Reading.{Reading, share, shares}
use Rattle.table.proofs.Lists.{over_map}
use Rattle.table.proofs.Good.{key_whole}
use Rattle.table.proofs.Rows.{gives}
use Rattle.table.proofs.Soundness.{W_most}
use Rattle.table.proofs.Shares.{share_given}
use Rattle.table.specs.Sound.{Ranged}
use Rattle.table.specs.Pour.{set_pair, append, raise, pour}
use Rattle.table.specs.Calls.{fresh}
use Rattle.blur.specs.Blur.{is_stored, step, plus_step, minus_step, pass, passes, mass_after, value_after}
use Rattle.blur.proofs.Stored.{own_stored}
use Rattle.filter.specs.Answer.{weight_of, weighted, meets, code_by, value_by}
use Rattle.filter.specs.Inner.{ones, weighed_over, Mapped}
use Rattle.filter.specs.Worked.{AnswerCases}

-- ---- the worked log
pub answer_cases : AnswerCases
unfolding floor remainder rounded sum over all tab collect word first all_near sums_to_zero best spread weight corner last_of points same key_at hash home walk sought whole set_pair append raise pour shares fresh step plus_step minus_step pass passes mass_after value_after weighted meets code_by value_by
answer_cases = record { value_sum = refl; mass_sum = refl; answer_between = refl; answer_near = refl; code_near = refl; answer_far = refl; code_far = refl }

-- a sum over the weighed points, by the points
over_weighed : (d S : ℕ) (q : List ℤ) (g : List ℤ × ℕ → ℤ) → over (weighed d S q) g ≡ over (points d S q) (λ y. g (y, weight d S (at q) (at y)))
unfolding weighed
over_weighed d S q g = over_map (λ y. (y, weight d S (at q) (at y))) (points d S q) g

-- all weights together are at most 384
pub weights_light : (c : Settings) → Ranged c → (q : List ℤ) → over (weighed c.d c.S q) (λ p. pos p.1) ≤ℤ pos most_W
weights_light c G q =
    let e = over_weighed c.d c.S q (λ p. pos p.1) ∙ all_sum_to_W c.d c.S G.S_least q in
    rw e (le_out (pos (W c.d c.S)) (pos most_W) (omega (arith, W_most c G)))

module _ (c : Settings) (t : Table) (M : Mapped c t) (q : List ℤ) where
  ps : List (List ℤ)
  ps = points c.d c.S q

  abbrev weigh : List ℤ → ℕ
  weigh y = weight c.d c.S (at q) (at y)

  -- point p of the list is stored point i
  abbrev is : ℕ → ℕ → Bool
  is i p = same (take c.d (get_or ps p [])) (key c t i)

  -- the weight of a stored point, as the list has it
  weight_in_lem : (i : ℕ) → i < t.m → pos (weight_of c t q i) ≡ sum (length ps) (λ p. pick (is i p) (pos (weigh (get_or ps p []))))
  unfolding ps shares
  weight_in_lem i l =
      let k = key c t i in
      let r : Reading = record { position = q; value = pos 0 } in
      let e = share_given c.d c.S M.readable.ranged.S_least r (whole k) (M.point i l) in
      sym (ap (λ (z : ℤ × ℤ). z.0) e)
      ∙ ap (λ (y : List ℤ). over (shares c.d c.S r) (gives mass_of y)) (key_whole c.d k (M.size i l))
      ∙ over_map (share c.d c.S r) ps (gives mass_of k)
      ∙ sym (sum_list ps [] (λ y. pick (same (take c.d y) k) (pos (weigh y))))

  module _ (f : List ℤ → ℤ) (off : (y : List ℤ) → is_stored c t y ≡ false → f y ≡ pos 0) where
    -- what stored point i has of point p of the list
    abbrev term : ℕ → ℕ → ℤ
    term i p = f (key c t i) *ℤ pick (is i p) (pos (weigh (get_or ps p [])))

    by_keys : weighted c t f q ≡ sum t.m (λ i. sum (length ps) (term i))
    unfolding weighted
    by_keys = sum_cong t.m (λ i. pos (weight_of c t q i) *ℤ f (key c t i)) (λ i. sum (length ps) (term i)) (λ i l.
        *-comm (pos (weight_of c t q i)) (f (key c t i)) ∙ ap (λ (z : ℤ). f (key c t i) *ℤ z) (weight_in_lem i l)
        ∙ sym (sum_mul (length ps) (f (key c t i)) (λ p. pick (is i p) (pos (weigh (get_or ps p []))))))

    -- of each point of the list one stored point has all, or none is it, and then f is 0
    at_point : (p : ℕ) → sum t.m (λ i. term i p) ≡ pos (weigh (get_or ps p [])) *ℤ f (take c.d (get_or ps p []))
    at_point p = sum_cong t.m (λ i. term i p) (λ i. pick (is i p) (w *ℤ f (key c t i))) (λ i l. picked (is i p) (f (key c t i))) ∙ go (found c t k) refl
      where
        w : ℤ
        w = pos (weigh (get_or ps p []))

        k : List ℤ
        k = take c.d (get_or ps p [])

        picked : (b : Bool) (z : ℤ) → z *ℤ pick b w ≡ pick b (w *ℤ z)
        picked true z = *-comm z w
        picked false z = *ℤ-zero z

        finds : (i : ℕ) → (found c t k ≡ suc i) ↔ ((i < t.m) × (key c t i ≡ k))
        finds = finds_exactly c.C t.m (key c t) (entry t) M.readable.ranged.C_least M.readable.indexed k

        go : (e : ℕ) → found c t k ≡ e → sum t.m (λ i. pick (is i p) (w *ℤ f (key c t i))) ≡ w *ℤ f k
        go zero e = none t.m (λ i. is i p) (λ i. w *ℤ f (key c t i)) (λ i l s. omega (arith, e, (finds i).1 (l, sym (same_eq k (key c t i) s))))
            ∙ sym (ap (λ (z : ℤ). w *ℤ z) (off k (rw e)) ∙ *ℤ-zero w)
        go (suc j) e =
            let (l, h) = (finds j).0 e in
            one_hit t.m (λ i. is i p) (λ i. w *ℤ f (key c t i)) j l (eq_same k (key c t j) (sym h))
            (λ i g s. omega (arith, e, (finds i).1 (g, sym (same_eq k (key c t i) s))))
            ∙ ap (λ (y : List ℤ). w *ℤ f y) h

    over_points : weighted c t f q ≡ over (points c.d c.S q) (λ y. pos (weigh y) *ℤ f (take c.d y))
    unfolding ps
    over_points = by_keys ∙ sum_swap t.m (length ps) term
        ∙ sum_cong (length ps) (λ p. sum t.m (λ i. term i p)) (λ p. pos (weigh (get_or ps p [])) *ℤ f (take c.d (get_or ps p []))) (λ p l. at_point p)
        ∙ sum_list ps [] (λ y. pos (weigh y) *ℤ f (take c.d y))

-- a sum over the stored points is a sum over the points of weight above 0, where what is not stored counts as 0
pub weighted_over : (c : Settings) (t : Table) → Mapped c t → (f : List ℤ → ℤ) → ((y : List ℤ) → is_stored c t y ≡ false → f y ≡ pos 0) → (q : List ℤ)
    → weighted c t f q ≡ weighed_over c.d (weighed c.d c.S q) f
weighted_over c t M f off q = over_points c t M q f off ∙ sym (over_weighed c.d c.S q (λ p. pos p.1 *ℤ f (take c.d p.0)))

module _ (c : Settings) (t : Table) (M : Mapped c t) (q : List ℤ) where
  abbrev each : ℕ → ℤ
  each i = pos (weight_of c t q i)

  abbrev light : ℕ → Bool
  light i = eqb (weight_of c t q i) 0

  abbrev total : ℤ
  total = weighed_over c.d (weighed c.d c.S q) (ones c t)

  all_weights : sum t.m each ≡ total
  unfolding weighted
  all_weights = sum_cong t.m each (λ i. each i *ℤ ones c t (key c t i)) (λ i l. rw (own_stored c t M.readable i l) (sym (*-comm (each i) (pos 1) ∙ *-one (each i))))
      ∙ weighted_over c t M (ones c t) (λ y e. rw e) q

  none_weighs : T (all t.m light) → T (eq_z total (pos 0))
  none_weighs h = rw (← all_weights, sum_cong t.m each (λ i. pos 0) (λ i l. ap pos (eqb→eq (weight_of c t q i) 0 (all_at t.m light h i l))), sum_zero t.m) tt

  each_light : T (eq_z total (pos 0)) → (i : ℕ) → i < t.m → pos 0 ≡ each i
  each_light h = sum_tight t.m (λ i. pos 0) each (λ i l. le_out (pos 0) (each i) (omega arith)) (rw (sum_zero t.m, all_weights, eq_z_eq total (pos 0) h) (≤ℤ_refl (pos 0)))

  -- some stored point has weight above 0 exactly where the weights of the stored ones do not sum to 0
  pub meets_ones : meets c t q ≡ not (eq_z (weighed_over c.d (weighed c.d c.S q) (ones c t)) (pos 0))
  unfolding meets
  meets_ones = ap not (T_ext (all t.m light) (eq_z total (pos 0)) none_weighs
      (λ h. all_of t.m light (λ i l. eq-eqb (weight_of c t q i) 0 (omega (arith, eq_in (pos 0) (each i) (each_light h i l))))))
