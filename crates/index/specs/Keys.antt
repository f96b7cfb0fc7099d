-- Keys: "Only the first d coordinates are kept". When two are equal, and the home place of one.
use Rattle.std.specs.Prelude.{ℕ, ◌+◌, ◌*◌, ◌%◌, Bool, true, false, ◌&&◌, List, [], ◌∷◌, ℤ, pos, negsuc, ◌==◌}
use Rattle.whole.specs.Lists.{at, tab}
use Rattle.whole.specs.Word.{modulus, word}

-- whether two whole numbers are equal
abbrev pub eq_z : ℤ → ℤ → Bool
eq_z (pos a) (pos b) = a == b
eq_z (pos a) (negsuc b) = false
eq_z (negsuc a) (pos b) = false
eq_z (negsuc a) (negsuc b) = a == b

-- whether two keys are equal
unfoldable pub same : List ℤ → List ℤ → Bool
same [] [] = true
same [] (b ∷ l) = false
same (a ∷ k) [] = false
same (a ∷ k) (b ∷ l) = eq_z a b && same k l

-- "The stretch of d numbers starting at d times the point's number": the key of point i
unfoldable pub key_at : ℕ → List ℤ → ℕ → List ℤ
key_at d keys i = tab d (λ j. at keys (d * i + j))

-- the number that a hash is multiplied by
abbrev pub factor : ℕ
factor = 2531011

-- "add it to h modulo 2^32 (a negative one counts as itself plus 2^32), then multiply by 2,531,011 modulo 2^32"
abbrev pub mixed : ℕ → ℤ → ℕ
mixed h c = (h + word c) % modulus * factor % modulus

-- "For each of the d kept coordinates in order"
unfoldable pub hash : ℕ → List ℤ → ℕ
hash h [] = h
hash h (c ∷ k) = hash (mixed h c) k

-- "Start h at 0. … The home place is h modulo 2·C."
unfoldable pub home : ℕ → List ℤ → ℕ
home C k = hash 0 k % (2 * C)
