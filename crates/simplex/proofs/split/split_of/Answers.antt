-- The floor by `floor_of`; W times it is x less the remainder, so it fits, and what is left is the remainder (`product_of`).
use Rattle.std.proofs.Common.{◌∙◌, arith}
use Rattle.whole.proofs.Parts.{zin}
use Rattle.whole.proofs.Signed.{zlow, zeq, zfits}
use Rattle.simplex.proofs.Splits.{product_of}
use Rattle.simplex.proofs.split.split_of.Goals as goal

pub overflow_mul-result : goal.overflow_mul-result
overflow_mul-result c = let s = product_of c.requires.total.some c.requires.abs c.floor_of-q.ensures in zfits (search zlow depth 14) (omega (arith, zin))

pub overflow_sub-result : goal.overflow_sub-result
overflow_sub-result c = let s = product_of c.requires.total.some c.requires.abs c.floor_of-q.ensures in zfits (search zlow depth 14) (omega (arith, zin))

pub returns : goal.returns
returns c =
    let s = product_of c.requires.total.some c.requires.abs c.floor_of-q.ensures in record {
      floor_is = zeq (search zlow depth 14) (omega (arith, zin)) ∙ s.is;
      rest_is = zeq (search zlow depth 14) (omega (arith, zin));
    }
