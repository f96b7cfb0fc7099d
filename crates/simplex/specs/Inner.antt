-- What the functions behind `enclose` compute, over any n up to six coordinates and any W. No contract that another crate sees cites this file.
use Rattle.std.specs.Prelude.{◌≡◌, cond, List, ℕ, zero, suc, ◌-◌, ◌/◌, ◌%◌, ◌≤◌, ◌<◌, max, ℤ, pos, neg_ℤ, ◌+ℤ◌, ◌-ℤ◌, ◌*ℤ◌, ◌≤ℤ◌, ◌<ℤ◌, ltb, length}
use Rattle.whole.specs.Size.{Abs≤}
use Rattle.whole.specs.Floor.{floor, remainder}
use Rattle.whole.specs.Sum.{sum}
use Rattle.whole.specs.Lists.{at, tab}
use Rattle.lattice.specs.Points.{spanned, corner_of}
use Rattle.lattice.specs.Limits.{most_coords, most_W, farthest}
use Rattle.simplex.specs.Slots.{slot_numbers, weight_in, coord_in}

-- f 0, …, f (n - 1), and 0 in the rest of six places
unfoldable pub padded : ℕ → (ℕ → ℤ) → List ℤ
padded n f = tab most_coords (λ i. cond (ltb i n) (f i) (pos 0))

-- the greatest of f 0, …, f (n - 1)
unfoldable pub peak : ℕ → (ℕ → ℕ) → ℕ
peak zero f = 0
peak (suc n) f = max (peak n f) (f n)

-- "At most 6·64 = 384."
pub record Total (w : ℕ) : Type 0 where
  pub some : 0 < w
  pub most : w ≤ most_W

-- q and r are the floor and the remainder of z by w
pub record SplitOf (w : ℕ) (z q r : ℤ) : Type 0 where
  pub floor_is : q ≡ floor z w
  pub rest_is : r ≡ pos (remainder z w)

-- the number that was split
abbrev pub joined : ℕ → ℤ → ℤ → ℤ
joined w q r = pos w *ℤ q +ℤ r

-- a split of a coordinate
pub record Part (w : ℕ) (q r : ℤ) : Type 0 where
  pub near : Abs≤ q farthest
  pub low : pos 0 ≤ℤ r
  pub high : r <ℤ pos w

-- two lists of six places
pub record Six (floors rests : List ℤ) : Type 0 where
  pub floors_six : length floors ≡ most_coords
  pub rests_six : length rests ≡ most_coords

-- the first n splits of two lists of six
pub record Parts (w n : ℕ) (floors rests : List ℤ) : Type 0 where
  pub total : Total w
  pub few : n ≤ most_coords
  pub six : Six floors rests
  pub part : (i : ℕ) → i < n → Part w (at floors i) (at rests i)

-- the coordinates that they are of
abbrev pub coordinate : ℕ → List ℤ → List ℤ → ℕ → ℤ
coordinate w floors rests i = joined w (at floors i) (at rests i)

-- up to six coordinates within ±1,000,000
pub record Near (w : ℕ) (x : List ℤ) (n : ℕ) : Type 0 where
  pub total : Total w
  pub few : n ≤ most_coords
  pub near : (i : ℕ) → i < n → Abs≤ (at x i) farthest

-- two such lists with the splits of the first n coordinates
pub record SplitsOf (w n : ℕ) (x floors rests : List ℤ) : Type 0 where
  pub six : Six floors rests
  pub floor_at : (i : ℕ) → i < n → at floors i ≡ floor (at x i) w
  pub rest_at : (i : ℕ) → i < n → at rests i ≡ pos (remainder (at x i) w)

-- the differences from place j: floors, their sum, and the greatest remainder
pub record StepsFrom (w n : ℕ) (x : ℕ → ℤ) (j : ℕ) (z : List ℤ) (total spread : ℤ) : Type 0 where
  pub z_six : length z ≡ most_coords
  pub z_is : (i : ℕ) → i < n → at z i ≡ floor (x i -ℤ x j) w
  pub total_is : total ≡ sum n (λ i. floor (x i -ℤ x j) w)
  pub spread_is : spread ≡ pos (peak n (λ i. remainder (x i -ℤ x j) w))

-- what keeps a point in 32 bits: floors of differences of coordinates are within 2·1,000,000 + 1, and the sum of six within six times that
pub record Span (n : ℕ) (z : List ℤ) (total : ℤ) : Type 0 where
  pub few : n ≤ most_coords
  pub z_six : length z ≡ most_coords
  pub total_near : Abs≤ total 12000006
  pub z_near : (i : ℕ) → i < n → Abs≤ (at z i) 2000001

-- the point that n numbers z of this sum make
abbrev pub point_of : ℕ → List ℤ → ℤ → List ℤ
point_of n z total = padded n (λ i. pos n *ℤ at z i -ℤ total)

-- the corner of place j, with its remainder and its weight
pub record CornerIs (w n : ℕ) (x : ℕ → ℤ) (j : ℕ) (point : List ℤ) (slot weight : ℕ) : Type 0 where
  pub point_is : point ≡ padded n (spanned n (λ i. floor (x i -ℤ x j) w))
  pub slot_is : slot ≡ remainder (neg_ℤ (sum n (λ i. floor (x i -ℤ x j) w))) n
  pub weight_is : weight ≡ w - peak n (λ i. remainder (x i -ℤ x j) w)

-- the same corner, told by the numbers that its point is made of
pub record CornerFrom (w n : ℕ) (x : ℕ → ℤ) (j : ℕ) (z : List ℤ) (total : ℤ) (slot weight : ℕ) : Type 0 where
  pub corner : CornerIs w n x j (point_of n z total) slot weight
  pub slot_in : slot < most_coords
  pub span : Span n z total

-- the weights and the coordinates of the six slots, where the corners of the first n places are in
unfoldable pub weights_by : ℕ → ℕ → List ℤ → ℕ → List ℕ
weights_by d S x n = tab most_coords (λ k. weight_in d S x (corner_of d S x n k))

unfoldable pub coords_by : ℕ → ℕ → List ℤ → ℕ → List ℤ
coords_by d S x n = tab slot_numbers (λ t. coord_in (corner_of d S x n (t / most_coords)) (t % most_coords))
