-- Lines of document 01's worked output, letter by letter, for the checker to compute.
use Rattle.std.specs.Prelude.{◌≡◌, [], ◌∷◌, pos, negsuc}
use Rattle.text.specs.Text.{digits, line}

-- Statement: `POINT 1 -1 6 36` and its line feed; 0 has one digit; 2^63 has nineteen.
pub record LineCases : Type 0 where
  pub point : line (80 ∷ 79 ∷ 73 ∷ 78 ∷ 84 ∷ []) (pos 1 ∷ negsuc 0 ∷ pos 6 ∷ pos 36 ∷ []) ≡ 80 ∷ 79 ∷ 73 ∷ 78 ∷ 84 ∷ 32 ∷ 49 ∷ 32 ∷ 45 ∷ 49 ∷ 32 ∷ 54 ∷ 32 ∷ 51 ∷ 54 ∷ 10 ∷ []
  pub nothing : digits 0 ≡ 48 ∷ []
  pub longest : digits 9223372036854775808 ≡ 57 ∷ 50 ∷ 50 ∷ 51 ∷ 51 ∷ 55 ∷ 50 ∷ 48 ∷ 51 ∷ 54 ∷ 56 ∷ 53 ∷ 52 ∷ 55 ∷ 55 ∷ 53 ∷ 56 ∷ 48 ∷ 56 ∷ []
