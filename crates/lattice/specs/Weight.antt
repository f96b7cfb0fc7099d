-- The weight of a lattice point for a position.
use Rattle.std.specs.Prelude.{Bool, cond, ℕ, zero, suc, ◌*◌, ◌-◌, ℤ, pos, nat_abs, ◌-ℤ◌, ◌*ℤ◌}
use Rattle.std.specs.Int.Signed.{le_z}

-- the best of f 0, …, f d, where r a b says that b is as good as a
unfoldable pub best : (ℤ → ℤ → Bool) → ℕ → (ℕ → ℤ) → ℤ
best r zero f = f 0
best r (suc d) f = cond (r (best r d f) (f (suc d))) (f (suc d)) (best r d f)

abbrev pub ge_z : ℤ → ℤ → Bool
ge_z a b = le_z b a

abbrev pub greatest : ℕ → (ℕ → ℤ) → ℤ
greatest d f = best le_z d f

abbrev pub least : ℕ → (ℕ → ℤ) → ℤ
least d f = best ge_z d f

-- x_i - S·y_i
abbrev pub residual : ℕ → (ℕ → ℤ) → (ℕ → ℤ) → ℕ → ℤ
residual S x y i = x i -ℤ pos S *ℤ y i

-- the greatest minus the least of f 0, …, f d
unfoldable pub spread : ℕ → (ℕ → ℤ) → ℕ
spread d f = nat_abs (greatest d f -ℤ least d f)

-- "W = (d+1)·S is the weight total."
abbrev pub W : ℕ → ℕ → ℕ
W d S = suc d * S

-- "let spread be the greatest minus the least of x_i - S·y_i over all i. The weight of y for x is W - spread where that is above 0, and 0 otherwise."
unfoldable pub weight : ℕ → ℕ → (ℕ → ℤ) → (ℕ → ℤ) → ℕ
weight d S x y = W d S - spread d (residual S x y)
