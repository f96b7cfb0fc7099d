-- The home place. Assumes nothing.
use Rattle.std.proofs.Common.{ℕ, ◌*◌, ◌<◌, List, ℤ, mod-lt, arith}
use Rattle.index.specs.Keys.{hash, home}

pub home_lt : (C : ℕ) (k : List ℤ) → 0 < C → home C k < 2 * C
unfolding home
home_lt C k p = mod-lt (hash 0 k) (omega arith)
