-- The starred home places of document 01's "Small numbers to check by hand".
use Rattle.std.specs.Prelude.{◌≡◌, [], ◌∷◌, pos, negsuc}
use Rattle.index.specs.Keys.{home}

-- "*d=1, C=8: home of key 1 is 3, of 2 is 6, of -1 is 13."
pub record HomeCases : Type 0 where
  pub of_one : home 8 (pos 1 ∷ []) ≡ 3
  pub of_two : home 8 (pos 2 ∷ []) ≡ 6
  pub of_minus_one : home 8 (negsuc 0 ∷ []) ≡ 13
