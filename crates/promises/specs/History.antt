-- How a table was made. Each call is one of documents 01 and 02, by its own definition.
use Rattle.std.specs.Prelude.{◌≡◌, cond, List, [], ◌∷◌, ◌++◌, ℕ, zero, suc, ℤ, take}
use Rattle.index.specs.Keys.{eq_z}
use Rattle.table.specs.Table.{Settings}
use Rattle.book.specs.Book.{Numbered, Booked, entries}
use Rattle.book.specs.Calls.{fresh_refusal, after_fresh, parsed, enter, merge_refusal, after_merge, withdraw_refusal, after_withdraw}
use Rattle.reader.specs.Items.{settings_of}
use Rattle.reader.specs.Walk as log
use Rattle.reader.specs.Walk.{items, before}
use Rattle.load.specs.Loading.{start_refusal, load}
use Rattle.load.specs.Numbering.{numbering}

-- Calls one after the other that end in one table. A table that is merged in has a history of its own: so it is merged once, and when all that belongs in
-- it is in. What is done to it afterwards is in no history of the whole: "a withdrawal counts only if it is made in the table that ends as the whole, or in
-- another before that one is merged".
pub data History : Type 0 where
  -- a fresh table of a capacity, in lent slices, whatever they hold, with a book of some room
  starting : ℕ → Booked → History
  -- a list of readings entered
  entering : History → List ℤ → History
  -- the second's table merged into the first's
  merging : History → History → History
  -- a table from anywhere merged into it, of whatever settings and contents, if it is not refused
  offering : History → Settings → Booked → History
  -- the reading of a number taken back
  withdrawing : History → ℤ → History
  -- a log loaded into lent slices
  loading : List ℕ → Booked → History

-- the capacity of its table: "Capacities may differ."
unfoldable pub capacity : History → ℕ
capacity (starting C b) = C
capacity (entering h l) = capacity h
capacity (merging h g) = capacity h
capacity (offering h e s) = capacity h
capacity (withdrawing h k) = capacity h
capacity (loading l b) = (settings_of l).C

-- the room of its book, which may differ too
unfoldable pub room : History → ℕ
room (starting C b) = b.room
room (entering h l) = room h
room (merging h g) = room h
room (offering h e s) = room h
room (withdrawing h k) = room h
room (loading l b) = b.room

-- its settings: one d and one S
abbrev pub settings_in : ℕ → ℕ → History → Settings
settings_in d S h = record { d = d; S = S; C = capacity h }

-- the table that its calls leave, with its book
unfoldable pub run : ℕ → ℕ → History → Booked
run d S (starting C b) = after_fresh (record { d = d; S = S; C = C }) b
run d S (entering h l) = (enter (settings_in d S h) (run d S h) l).booked
run d S (merging h g) = after_merge (settings_in d S h) (run d S h) (settings_in d S g) (run d S g)
run d S (offering h e s) = after_merge (settings_in d S h) (run d S h) e s
run d S (withdrawing h k) = after_withdraw (settings_in d S h) (run d S h) k
run d S (loading l b) = (load l b).booked

-- it was begun: the settings and the slices of every fresh table and of every log were accepted, and the log's settings are of this d and S
abbrev pub Begun : ℕ → ℕ → History → Type 0
Begun d S (starting C b) = fresh_refusal (record { d = d; S = S; C = C }) b ≡ 0
Begun d S (entering h l) = Begun d S h
Begun d S (merging h g) = Begun d S h × Begun d S g
Begun d S (offering h e s) = Begun d S h
Begun d S (withdrawing h k) = Begun d S h
Begun d S (loading l b) = ((settings_of l).d ≡ d) × ((settings_of l).S ≡ S) × (start_refusal l b ≡ 0)

-- the readings of a table that is merged in, where the merge has this number: "All or nothing"
abbrev pub unless_refused : ℕ → List Numbered → List Numbered
unless_refused zero es = es
unless_refused (suc x) es = []

-- the others, where the reading of a number is taken back
unfoldable pub without_number : ℤ → List Numbered → List Numbered
without_number k [] = []
without_number k (e ∷ es) = cond (eq_z e.number k) (without_number k es) (e ∷ without_number k es)

-- "the readings entered and not withdrawn", of those that its calls took. Enter: "The table holds those taken and nothing of the refused one." Merge: "All or
-- nothing". Loading: "the table then holds exactly the readings before that place", and those without a number get one.
unfoldable pub taken : ℕ → ℕ → History → List Numbered
taken d S (starting C b) = []
taken d S (entering h l) = taken d S h ++ take (enter (settings_in d S h) (run d S h) l).taken (parsed d l)
taken d S (merging h g) = taken d S h ++ unless_refused (merge_refusal (settings_in d S h) (run d S h) (settings_in d S g) (run d S g)) (taken d S g)
taken d S (offering h e s) = taken d S h ++ unless_refused (merge_refusal (settings_in d S h) (run d S h) e s) (entries e.d s.table.n s.book)
taken d S (withdrawing h k) = without_number k (taken d S h)
taken d S (loading l b) = numbering [] (before (load l b).offset (items l))

-- no call of the history was refused
abbrev pub NoneRefused : ℕ → ℕ → History → Type 0
NoneRefused d S (starting C b) = fresh_refusal (record { d = d; S = S; C = C }) b ≡ 0
NoneRefused d S (entering h l) = NoneRefused d S h × ((enter (settings_in d S h) (run d S h) l).number ≡ 0)
NoneRefused d S (merging h g) = NoneRefused d S h × NoneRefused d S g × (merge_refusal (settings_in d S h) (run d S h) (settings_in d S g) (run d S g) ≡ 0)
NoneRefused d S (offering h e s) = NoneRefused d S h × (merge_refusal (settings_in d S h) (run d S h) e s ≡ 0)
NoneRefused d S (withdrawing h k) = NoneRefused d S h × (withdraw_refusal (settings_in d S h) (run d S h) k ≡ 0)
NoneRefused d S (loading l b) = ((settings_of l).d ≡ d) × ((settings_of l).S ≡ S) × ((load l b).number ≡ 0)

-- all readings of a history, "entered and not withdrawn": those of the lists entered, of the logs loaded, and of the tables merged in, without those taken back
unfoldable pub readings : ℕ → History → List Numbered
readings d (starting C b) = []
readings d (entering h l) = readings d h ++ parsed d l
readings d (merging h g) = readings d h ++ readings d g
readings d (offering h e s) = readings d h ++ entries e.d s.table.n s.book
readings d (withdrawing h k) = without_number k (readings d h)
readings d (loading l b) = numbering [] (log.readings (items l))
