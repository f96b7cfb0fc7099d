-- The steps from place j, and what they make (`corner_made`).
use Rattle.std.proofs.Common.{◌≡◌, refl, ap, ◌∙◌, ℤ, pos, ◌-ℤ◌, arith}
use lib.IntN.{neg_ℤ}
use lib.Dec.{lit<}
use Rattle.whole.specs.Floor.{remainder}
use Rattle.whole.proofs.Parts.{zin}
use Rattle.whole.proofs.Signed.{zlin, zeq, zfits, W32}
use Rattle.whole.proofs.Size.{back32}
use Rattle.simplex.proofs.Steps.{span_of, spread_le, corner_made}
use Rattle.simplex.proofs.corner.corner_of.Goals as goal

pub overflow_sub-s : goal.overflow_sub-s
overflow_sub-s c = let p = c.requires in let s = (span_of _ _ _ _ _ p.parts p.j_lt_n c.steps_from-s.ensures).total_near in zfits (search zlin depth 14) (omega (arith, zin))

pub overflow_sub-result : goal.overflow_sub-result
overflow_sub-result c = let p = c.requires in spread_le _ _ _ _ _ p.parts p.j_lt_n c.steps_from-s.ensures

pub returns : goal.returns
returns c =
    let p = c.requires in
    let s = (span_of _ _ _ _ _ p.parts p.j_lt_n c.steps_from-s.ensures).total_near in
    let t = c.steps_from-s.result.total in
    let n = c.args.n in
    let slot : c.remainder_of-k.result ≡ remainder (neg_ℤ t) n = c.remainder_of-k.ensures ∙ ap (λ (y : ℤ). remainder y n) {x = W32 (pos 0 -ℤ W32 t)} (zeq (search zlin depth 14) (omega (arith, zin))) in
    rw (back32 s (lit< tt)) (corner_made _ _ _ _ _ p.parts p.j_lt_n c.steps_from-s.ensures slot refl)
