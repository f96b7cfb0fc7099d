-- The numbers of a book copied into a list, with an index that finds each: a table's search at d = 1.
use Rattle.std.specs.Prelude.{◌≡◌, Bool, true, not, cond, List, [], ◌∷◌, ℕ, zero, suc, ◌+◌, ◌*◌, ◌≤◌, ◌<◌, T, ℤ, pos, length, set}
use Rattle.whole.specs.Lists.{at, tab, splice}
use Rattle.lattice.specs.Limits.{most_readings}
use Rattle.index.specs.Keys.{key_at}
use Rattle.index.specs.Search.{entry_at, search}
use Rattle.index.specs.Indexed.{used, Indexed}
use Rattle.book.specs.Book.{among, numbers_apart}
use Rattle.book.specs.Withdraw.{afresh}

-- more places than a book has entries, and a prime: so numbers that are multiples of a power of 2 go to different places
abbrev pub number_room : ℕ
number_room = 4099

-- the place at which the search for a number ends
abbrev pub place_for : List ℤ → List ℕ → ℤ → ℕ
place_for numbers places k = search number_room (key_at 1 numbers) (entry_at places) (k ∷ [])

-- whether that place names an entry: the number is held
abbrev pub is_named : List ℤ → List ℕ → ℤ → Bool
is_named numbers places k = used (entry_at places) (place_for numbers places k)

-- the first n numbers of a list are found by the index
pub record NumberIndex (n : ℕ) (numbers : List ℤ) (places : List ℕ) : Type 0 where
  pub numbers_size : length numbers ≡ number_room
  pub places_size : length places ≡ 2 * number_room
  pub few : n ≤ most_readings
  pub indexed : Indexed number_room n (key_at 1 numbers) (entry_at places)

-- a number more, where it is another than all before; else nothing is changed
pub record Adds (n : ℕ) (numbers : List ℤ) (places : List ℕ) (k : ℤ) (ok : Bool) (numbers' : List ℤ) (places' : List ℕ) : Type 0 where
  pub ok_is : ok ≡ not (among n (at numbers) k)
  pub numbers_are : numbers' ≡ cond ok (set numbers n k) numbers
  pub places_are : places' ≡ cond ok (set places (place_for numbers places k) (n + 1)) places
  pub index_is : ok ≡ true → NumberIndex (n + 1) numbers' places'

-- how many of the first n numbers come before the first that is met twice
unfoldable pub apart_to : ℕ → (ℕ → ℤ) → ℕ
apart_to zero f = 0
apart_to (suc n) f = cond (numbers_apart (suc n) f) (suc n) (apart_to n f)

-- the numbers of n entries copied and indexed, up to the first that is met twice
pub record IndexesBook (n : ℕ) (f : ℕ → ℤ) (numbers : List ℤ) (ok : Bool) (numbers' : List ℤ) (places' : List ℕ) : Type 0 where
  pub ok_is : ok ≡ numbers_apart n f
  pub numbers_are : numbers' ≡ splice numbers 0 (tab (apart_to n f) f)
  pub places_are : places' ≡ afresh number_room (λ j. f j ∷ []) (apart_to n f)
  pub index_is : ok ≡ true → NumberIndex n numbers' places'
  pub copied : ok ≡ true → (j : ℕ) → j < n → at numbers' j ≡ f j

-- each of the numbers from 0 up, below the one given, is among n
abbrev pub HeldBelow : ℕ → ℕ → (ℕ → ℤ) → Type 0
HeldBelow from n f = (k : ℕ) → k < from → T (among n f (pos k))
