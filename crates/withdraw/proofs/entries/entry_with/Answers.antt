-- The last entry that begins with the number.
use Rattle.std.proofs.Common.{rules, ◌≡◌, ℕ, ℤ, List, ◌≤◌, length-drop, [], ◌∷◌, pos, ◌+◌, ◌*◌, ◌/◌, ◌<◌, ◌&&◌, true, T, length, take, drop, of_z, to_z, w32, sym, ap, subst, ◌∙◌, arith, tests, to_z-of_z}
use Rattle.std.specs.Ordering.{int_eq}
use Rattle.std.specs.Cmp.Lexicographic.{pointwise}
use Rattle.std.proofs.lemmas.Bool.Decides.{Decides-int_eq}
use Rattle.std.proofs.Math.Nat.{mul-div_cancel_left}
use lib.Seq.{length-take-le, get_or-take, get_or-drop}
use Rattle.whole.specs.Lists.{at}
use Rattle.whole.proofs.Tests.{T_ext, T_true, and_l, and_i}
use Rattle.index.specs.Keys.{eq_z}
use Rattle.index.proofs.Equality.{eq_z_eq, eq_z_refl}
use Rattle.book.specs.Book.{number_at}
use Rattle.book.proofs.Entries.{entry_inside}
use Rattle.withdraw.proofs.Downward.{place_down}
use Rattle.withdraw.proofs.FromBack.{last_of, counted_low}
use Rattle.withdraw.proofs.entries.entry_with.Goals as goal

-- a list that begins with a number
begins : (k : ℤ) (x : List ℤ) → 0 < length x → pointwise int_eq (k ∷ []) (take 1 x) ≡ eq_z (at x 0) k
begins k [] h = absurd (omega arith)
begins k (y ∷ ys) h = T_ext (int_eq k y && true) (eq_z y k) (λ t. subst (λ (z : ℤ). T (eq_z y z)) (sym ((Decides-int_eq k y).0 (T_true (int_eq k y) (and_l (int_eq k y) true t)))) (eq_z_refl y))
    (λ t. and_i (int_eq k y) true (subst T (sym ((Decides-int_eq k y).1 (sym (eq_z_eq y k t)))) tt) tt)

-- a piece has a first number
leads : (w j : ℕ) (l x : List ℤ) → 0 < w → w * j + w ≤ length l → x ≡ take w (drop (w * j) l) → (0 < length x) × (at x 0 ≡ at l (w * j))
leads w j l x some fit e =
    let q : w * j + 0 ≡ w * j = omega arith in (
      omega (arith, ap length e ∙ length-take-le w (drop (w * j) l) (omega (arith, length-drop (w * j) l))),
      ap (λ v. at v 0) e ∙ get_or-take w (drop (w * j) l) 0 (pos 0) some ∙ get_or-drop (w * j) l 0 (pos 0) ∙ ap (at l) q,
    )

pub returns : goal.returns
returns c =
    let w = c.args.d + 3 in
    let l = c.args.book.now in
    let number = number_at c.args.d l in
    let D = place_down number c.args.number in
    let many = c.chunks_exact.ensures.count ∙ ap (λ k. k / w) (length-take-le (w * c.args.n) l c.requires.2) ∙ mul-div_cancel_left c.args.n (omega arith) in
    let h = last_of w c.args.n l (omega arith) c.requires.2 _ D
    (λ j h x e b q k. let t : (q ≡ _) × (b ≡ pointwise int_eq (to_z w32 (of_z w32 c.args.number) ∷ []) (take 1 x.now)) = search (rules, tests) in
    let f = leads w j l x.now (omega arith) (omega (arith, entry_inside c.args.d c.args.n j h, c.requires.2)) e in
    (t.0, t.1 ∙ ap (λ v. pointwise int_eq (v ∷ []) (take 1 x.now)) (to_z-of_z c.ranges.number) ∙ begins c.args.number x.now f.0 ∙ ap (λ v. eq_z v c.args.number) f.1))
    _ many (search rules) (search rules) c.rposition.ensures.ran in
    record { which = h; inside = counted_low D c.args.n _ h }
