-- Each return is the first test that fails, or the rounded quotient.
use borrow.Author.Rules.{rules}
use native.Mathlib.Omega.{arith}
use mathlib.Core.Path.{◌≡◌, ap, ◌∙◌}
use lib.IntN.{pos}
use mir.Syntax.{w64}
use mir.Val.{SFits, of_z}
use mir.Facts.{to_z-of_z}
use Rattle.whole.proofs.Parts.{zin}
use Rattle.whole.proofs.Signed.{zlin, zeq, zfits, bits_eq}
use Rattle.filter.proofs.Quotient.{fraction, quotient_is, quotient_small, no_point, no_mass, answered}
use Rattle.filter.proofs.reply.quotient.Goals.{Start, Else-sums-eq0, Else-sums-eq0-2}
use Rattle.filter.proofs.reply.quotient.Goals as goal

mass_fits : (c : Start) → SFits w64 c.args.sums.mass
mass_fits c = search rules

value_fits : (c : Start) → SFits w64 c.args.sums.value
value_fits c = search rules

some_point : (c : Else-sums-eq0) → c.args.sums.weight ≡ pos 0 → ⊥
some_point c e = c.if-sums-eq0.false (ap (of_z w64) e)

some_mass : (c : Else-sums-eq0-2) → c.args.sums.mass ≡ pos 0 → ⊥
some_mass c e = c.if-sums-eq0-2.false (ap (of_z w64) e)

pub returns-then-sums-eq0 : goal.returns-then-sums-eq0
returns-then-sums-eq0 c =
    let weight_fits : SFits w64 c.args.sums.weight = search rules in
    let z : SFits w64 (pos 0) = search rules in
    no_point _ _ _ (bits_eq weight_fits z c.if-sums-eq0.true)

pub returns-then-sums-eq0-2 : goal.returns-then-sums-eq0-2
returns-then-sums-eq0-2 c =
    let at = goal.at.returns-then-sums-eq0-2 c in
    let z : SFits w64 (pos 0) = search rules in
    no_mass _ _ _ (some_point at.Else-sums-eq0) (bits_eq (mass_fits at.Start) z c.if-sums-eq0-2.true)

pub round_fraction-requires : goal.round_fraction-requires
round_fraction-requires c =
    let at = goal.at.round_fraction-requires c in
    rw (to_z-of_z (value_fits at.Start), to_z-of_z (mass_fits at.Start)) (fraction _ _ c.requires (some_mass at.Else-sums-eq0-2))

pub returns : goal.returns
returns c =
    let at = goal.at.returns c in
    let quotient = quotient_is _ _ (value_fits at.Start) (mass_fits at.Start) c.round_fraction.ensures in
    let b = quotient_small _ _ c.requires (some_mass at.Else-sums-eq0-2) quotient in
    answered _ _ _ _ (zeq (search zlin depth 14) (omega (arith, zin)) ∙ quotient) (some_point at.Else-sums-eq0) (some_mass at.Else-sums-eq0-2)

pub overflow_cast-result : goal.overflow_cast-result
overflow_cast-result c =
    let at = goal.at.overflow_cast-result c in
    let b = quotient_small _ _ c.requires (some_mass at.Else-sums-eq0-2) (quotient_is _ _ (value_fits at.Start) (mass_fits at.Start) c.round_fraction.ensures) in
    zfits (search zlin depth 14) (omega (arith, zin))
