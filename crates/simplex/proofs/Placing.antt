-- What `enclose` asks of a position, from what `judge` answers.
use mathlib.Core.Path.{◌≡◌}
use mathlib.Core.List.{List}
use Prim.Native.Nat.{ℕ, suc, ◌≤◌}
use lib.IntN.{ℤ}
use lib.ListN.{length}
use Rattle.lattice.specs.Position.{judged}
use Rattle.lattice.proofs.Judging.{judged_right}
use Rattle.simplex.specs.Slots.{Placed}

-- a position that was judged good may be enclosed
pub placed : (d S : ℕ) (x : List ℤ) → 1 ≤ d → d ≤ 5 → 1 ≤ S → S ≤ 64 → length x ≡ suc d → judged x ≡ 0 → Placed d S x
placed d S x a b c e size j = let p = (judged_right d x size).none.0 j in record { d_least = a; d_most = b; S_least = c; S_most = e; size = size; near = p.near }
