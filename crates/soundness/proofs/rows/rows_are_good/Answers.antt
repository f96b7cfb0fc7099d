use borrow.Author.Rules.{rules}
use native.Mathlib.Omega.{arith}
use mathlib.Core.Path.{◌≡◌, refl, ap, sym, ◌∙◌}
use mathlib.Core.Bool.{true}
use Prim.Native.Nat.{ℕ, ◌+◌, ◌*◌}
use lib.IntN.{ℤ, pos}
use mir.Syntax.{w64}
use mir.Val.{of_z}
use mir.Facts.{of_z-to_z}
use Rattle.whole.specs.Size.{Within}
use Rattle.whole.specs.Sum.{sum, all}
use Rattle.whole.specs.Lists.{at}
use Rattle.whole.proofs.Parts.{zin}
use Rattle.whole.proofs.Signed.{zlin, zeq, zfits, eq_plus}
use Rattle.whole.proofs.Size.{zabs}
use Rattle.whole.proofs.Sum.{sum_more}
use Rattle.whole.proofs.Tests.{all_more}
use Rattle.soundness.specs.Inner.{light_row}
use Rattle.soundness.proofs.Weighing.{rows_fewer, row_mass, rows_stop, rows_done, bits_same}
use Rattle.soundness.proofs.rows.rows_are_good.Goals as goal
use Rattle.soundness.proofs.rows.rows_are_good.Goals.{Else-not-good_row, Start}

abbrev mass_at : Start → ℕ → ℤ
mass_at s j = at s.args.sums.now (2 * j)

pub loop-i-init : goal.loop-i-init
unfolding sum all
loop-i-init c = (search rules, refl, zeq (search zlin depth 14) (omega arith), zabs (search zlin depth 14) (omega arith))

pub good_row-requires : goal.good_row-requires
good_row-requires c = rows_fewer c.requires (search rules)

pub returns-then-not-good_row : goal.returns-then-not-good_row
returns-then-not-good_row c =
    let l = c.loop-i in
    rows_stop c.args.total c.args.d c.args.keys.now c.args.sums.now c.args.points l.i (search rules) c.good_row.ensures (c.if-not-good_row.true)

here : (c : Else-not-good_row) → let a = c.args in light_row a.total a.d a.keys.now a.sums.now c.loop-i.i ≡ true
here c = sym c.good_row.ensures ∙ c.if-not-good_row.false

mass : (c : Else-not-good_row) → Within (pos 1) (pos c.args.total) (mass_at c.before.before.before.before c.loop-i.i)
mass c = row_mass _ _ _ _ _ (here c)

pub overflow_add-masses : goal.overflow_add-masses
overflow_add-masses c =
    let p = c.requires in
    let w = mass (goal.at.overflow_add-masses c).Else-not-good_row in
    zfits (search zlin depth 14) (omega (arith, zin, p.few))

pub loop-i-preserved : goal.loop-i-preserved
loop-i-preserved c =
    let p = c.requires in
    let w = mass (goal.at.loop-i-preserved c).Else-not-good_row in
    let q = eq_plus (sum (c.loop-i.i + 1) (mass_at (goal.at.loop-i-preserved c).Start)) (sum c.loop-i.i (mass_at (goal.at.loop-i-preserved c).Start)) (mass_at (goal.at.loop-i-preserved c).Start c.loop-i.i) (sum_more c.loop-i.i (mass_at (goal.at.loop-i-preserved c).Start)) in (
      search rules,
      all_more c.loop-i.i (light_row _ _ _ _) c.loop-i.invariant.1 (here (goal.at.loop-i-preserved c).Else-not-good_row),
      zeq (search zlin depth 14) (omega (arith, zin, p.few)),
      zabs (search zlin depth 14) (omega (arith, zin, p.few)),
    )

pub returns : goal.returns
returns c =
    let l = c.loop-i in
    let e : l.i ≡ c.args.points = omega arith in
    bits_same c.args.total (search rules) c.from.ensures (sym (of_z-to_z c.loop-i.auto.masses-fits) ∙ ap (of_z w64) l.invariant.2) l.invariant.2
    ∙ rows_done c.args.total c.args.d c.args.keys.now c.args.sums.now c.args.points l.i e l.invariant.1 refl
