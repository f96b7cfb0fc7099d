-- Outcomes and the numbers that they tell: each number of the definitions is 0 or a refusal's, so an outcome tells it; and what an outcome tells no other one tells.
use mathlib.Core.Path.{◌≡◌, refl, sym, ap, subst, ◌∙◌}
use mathlib.Core.Bool.{Bool, true, false}
use mathlib.Core.List.{List, [], ◌∷◌}
use Prim.Native.Nat.{ℕ, zero, suc, ◌+◌}
use lib.IntN.{ℤ}
use Rattle.std.specs.Prelude.{Option, Some, None, Result, Ok, Err}
use Rattle.whole.specs.Lists.{All}
use Rattle.lattice.specs.declared.refusals.Refusal.{Refusal}
use Rattle.lattice.specs.declared.refusals.Refusal.TheVariants.{SettingsOutOfRange, OtherLength, NotSound, CoordinateBeyond, SumNotZero, ValueBeyond, TooManyReadings, TooManyPoints, SettingsDiffer, NumberNotHeld, NumberHeld}
use Rattle.lattice.specs.Refusals.{Tests, first, number, told}
use Rattle.lattice.proofs.Refusing.{number_not_0, one_number}
use Rattle.table.specs.declared.Head.{Head}
use Rattle.table.specs.Table.{Settings, Table}
use Rattle.table.specs.declared.Refused.{Refused as RefusedWith}
use Rattle.table.specs.Heads.{head_told, told_beside, with_counts}
use Rattle.book.specs.Book.{Numbered, Booked}
use Rattle.book.specs.Calls.{Outcome, one_more, entered, fresh_refusal, fresh_booked, call_refusal, refusal, enter_all, enter_refusal, parsed, enter, merge_refusal, withdraw_refusal}
use Rattle.blur.specs.declared.pair.Pair.{Pair}
use Rattle.blur.specs.Inner.{PairFound}
use Rattle.filter.specs.Inner.{value_told}
use Rattle.reader.specs.declared.kinds.Kind.{Kind}
use Rattle.reader.specs.declared.kinds.Meaning.{Meaning}
use Rattle.reader.specs.declared.kinds.Meaning.TheVariants.{Reads, Asks, Refuses}
use Rattle.reader.specs.Kinds.{row_of}
use Rattle.reader.specs.Items.{Item, Of, End, Refused, after_settings, settings_of, item_at, width_of, values_of, number_of, item_said}
use Rattle.reader.specs.Content.{Said, reads, asks, refuses, said_by, said_at}
use Rattle.reader.specs.Walk.{Walk, then, ends, item_then, walk_from, walk, items}
use Rattle.reader.proofs.Saying.{Answer, said_there}
use Rattle.load.specs.Loading.{Load, or_else, start_refusal, take_number, take_booked, stop_at, load_walk, started, load}

-- ---- a number that an outcome tells: 0, or that of a refusal
pub record Told (x : ℕ) : Type 0 where
  pub by : Result (Unit {0}) Refusal
  pub tells : told by ≡ x

nothing : Told 0
nothing = record { by = Ok tt; tells = refl }

its : (r : Refusal) → Told (number r)
its r = record { by = Err r; tells = refl }

-- tests whose numbers are all told
abbrev AllTold : Tests → Type 0
AllTold l = All (λ (p : Bool × ℕ). Told p.1) l

first_told : (l : Tests) → AllTold l → Told (first l)
unfolding first
first_told [] h = nothing
first_told ((true, k) ∷ l) h = first_told l h.1
first_told ((false, k) ∷ l) h = h.0

-- ---- the calls
pub fresh_told : (c : Settings) (b : Booked) → Told (fresh_refusal c b)
unfolding fresh_refusal
fresh_told c b = first_told _ (its SettingsOutOfRange, (its OtherLength, tt))

pub call_told : (c : Settings) (b : Booked) (more : Bool) → Told (call_refusal c b more)
unfolding call_refusal
call_told c b more = first_told _ (its SettingsOutOfRange, (its OtherLength, (its NotSound, tt)))

reading_told : (c : Settings) (b : Booked) (e : Numbered) → Told (refusal c b e)
unfolding refusal
reading_told c b e = first_told _ (its CoordinateBeyond, (its SumNotZero, (its ValueBeyond, (its NumberHeld, (its TooManyReadings, (its TooManyPoints, tt))))))

pub merge_told : (c : Settings) (b : Booked) (e : Settings) (s : Booked) → Told (merge_refusal c b e s)
unfolding merge_refusal
merge_told c b e s = first_told _ (
  its SettingsOutOfRange,
  (its SettingsOutOfRange, (its OtherLength, (its OtherLength, (its NotSound, (its NotSound, (its SettingsDiffer, (its NumberHeld, (its TooManyReadings, (its TooManyPoints, tt))))))))),
)

pub withdraw_told : (c : Settings) (b : Booked) (k : ℤ) → Told (withdraw_refusal c b k)
unfolding withdraw_refusal
withdraw_told c b k = first_told _ (its SettingsOutOfRange, (its OtherLength, (its NotSound, (its NumberNotHeld, tt))))

-- refused, or as what follows
or_stopped : Booked → Outcome → ℕ → Outcome
or_stopped b o x = elim x [ zero ↦ o | suc x ↦ record { taken = 0; number = suc x; booked = b } ]

or_told : (b : Booked) (o : Outcome) (x : ℕ) → Told x → Told o.number → Told (or_stopped b o x).number
unfolding or_stopped
or_told b o zero t h = h
or_told b o (suc x) t h = t

readings_told : (c : Settings) (b : Booked) (es : List Numbered) → Told (enter_all c b es).number
unfolding enter_all or_stopped
readings_told c b [] = nothing
readings_told c b (e ∷ es) = or_told b (one_more (enter_all c (entered c b e) es)) (refusal c b e) (reading_told c b e) (readings_told c (entered c b e) es)

pub enter_told : (c : Settings) (b : Booked) (l : List ℤ) → Told (enter c b l).number
unfolding enter or_stopped
enter_told c b l = or_told b (enter_all c b (parsed c.d l)) (enter_refusal c b l) (call_told c b _) (readings_told c b (parsed c.d l))

-- ---- loading
-- the numbers in what an item says, and in what all items of a log say
SaidTold : Said → Type 0
SaidTold (reads r) = Unit {0}
SaidTold (asks q) = Unit {0}
SaidTold (refuses x) = Told x

WalkTold : Walk → Type 0
WalkTold (then a s w) = SaidTold s × WalkTold w
WalkTold (ends x a) = Told x

said_told : (l : List ℕ) (a : ℕ) (k : Kind) → SaidTold (said_at l a k)
unfolding said_at SaidTold
said_told l a k = go (row_of k.family).means
  where
    go : (m : Meaning) → SaidTold (said_by m k.d (values_of l a (Of k)))
    go (Reads from) = tt
    go Asks = tt
    go (Refuses r) = its r

answer_told : (r : Answer) → Told (number_of (item_said r))
answer_told (Ok (Some k)) = nothing
answer_told (Ok None) = nothing
answer_told (Err r) = its r

item_told : (l : List ℕ) (a : ℕ) → Told (number_of (item_at l a))
item_told l a = let r = said_there l a in subst (λ (i : Item). Told (number_of i)) r.1 (answer_told r.0)

step_told : (l : List ℕ) (a : ℕ) (i : Item) (w : Walk) → Told (number_of i) → WalkTold w → WalkTold (item_then l a i w)
unfolding WalkTold
step_told l a (Of k) w t h = (said_told l a k, h)
step_told l a End w t h = t
step_told l a (Refused x) w t h = t

walk_told : (n : ℕ) (l : List ℕ) (a : ℕ) → WalkTold (walk_from n l a)
unfolding walk_from WalkTold
walk_told zero l a = nothing
walk_told (suc n) l a = step_told l a (item_at l a) _ (item_told l a) (walk_told n l (a + width_of (item_at l a)))

take_told : (c : Settings) (b : Booked) (s : Said) → SaidTold s → Told (take_number c b s)
unfolding SaidTold
take_told c b (reads r) t = reading_told c b _
take_told c b (asks q) t = nothing
take_told c b (refuses x) t = t

stop_told : (x : ℕ) (c : Settings) (b : Booked) (a : ℕ) (rest : Load) → Told x → Told rest.number → Told (stop_at x c b a rest).number
stop_told zero c b a rest t h = h
stop_told (suc x) c b a rest t h = t

load_walk_told : (c : Settings) (b : Booked) (w : Walk) → WalkTold w → Told (load_walk c b w).number
unfolding load_walk WalkTold
load_walk_told c b (then a s w) h = stop_told (take_number c b s) c b a _ (take_told c b s h.0) (load_walk_told c (take_booked c b s) w h.1)
load_walk_told c b (ends x a) h = h

either_told : (x y : ℕ) → Told x → Told y → Told (or_else x y)
either_told zero y t u = u
either_told (suc x) y t u = t

started_told : (x : ℕ) (l : List ℕ) (b : Booked) → Told x → Told (started x l b).number
unfolding walk
started_told zero l b t = load_walk_told (settings_of l) (fresh_booked (settings_of l) b.room) (items l) (walk_told _ l after_settings)
started_told (suc x) l b t = t

pub load_told : (l : List ℕ) (b : Booked) → Told (load l b).number
unfolding load
load_told l b = started_told (start_refusal l b) l b (either_told _ _ (item_told l 0) (fresh_told (settings_of l) b))

-- ---- a head, or a refusal with a head beside it
pub head_by : Head → Result (Unit {0}) Refusal → Result Head RefusedWith
head_by after (Ok _) = Ok after
head_by after (Err r) = Err (record { refusal = r; head = after })

pub head_tells : (after : Head) (r : Result (Unit {0}) Refusal) → told_beside (head_by after r) ≡ told r
unfolding head_by
head_tells after (Ok _) = refl
head_tells after (Err r) = refl

-- the head that is handed back, done or refused
pub head_handed : (after : Head) (r : Result (Unit {0}) Refusal) → head_told (head_by after r) ≡ after
unfolding head_by
head_handed after (Ok _) = refl
head_handed after (Err r) = refl

-- a call that leaves all where it is refused hands back the counts that it was given; for a caller who keeps the head that was given, and no proof here cites it
pub head_given : (h : Head) (b u : Booked) (x : ℕ) → ((y : ℕ) → x ≡ suc y → u ≡ b) → (x ≡ 0 → ⊥) → with_counts h u.table.n u.table.m ≡ with_counts h b.table.n b.table.m
head_given h b u zero f n = absurd (n refl)
head_given h b u (suc y) f n = ap (λ (u : Booked). with_counts h u.table.n u.table.m) (f y refl)

-- ---- by no other
pub one_head : (r q : Result Head RefusedWith) → told_beside r ≡ told_beside q → head_told r ≡ head_told q → r ≡ q
one_head (Ok h) (Ok k) e f = ap (λ (x : Head). Ok x) f
one_head (Ok h) (Err w) e f = absurd (number_not_0 w.refusal (sym e))
one_head (Err w) (Ok k) e f = absurd (number_not_0 w.refusal e)
one_head (Err w) (Err v) e f = let same = one_number w.refusal v.refusal e in λ i. Err (record { refusal = same i; head = f i })

pub one_reply : (r q : Result ℤ Refusal) → value_told r ≡ value_told q → told r ≡ told q → r ≡ q
one_reply (Ok v) (Ok w) f e = ap (λ (x : ℤ). Ok x) f
one_reply (Ok v) (Err w) f e = absurd (number_not_0 w (sym e))
one_reply (Err w) (Ok v) f e = absurd (number_not_0 w e)
one_reply (Err w) (Err v) f e = ap (λ (x : Refusal). Err x) (one_number w v e)

-- a key has one pair
pub one_pair : (c : Settings) (t : Table) (y : List ℤ) (r q : Option Pair) → PairFound c t y r → PairFound c t y q → r ≡ q
one_pair c t y None None P Q = refl
one_pair c t y None (Some q) P Q = cc (P.stored_is, Q.stored_is)
one_pair c t y (Some p) None P Q = cc (P.stored_is, Q.stored_is)
one_pair c t y (Some p) (Some q) P Q = λ i. Some (record { mass = (P.mass_is ∙ sym Q.mass_is) i; value = (P.value_is ∙ sym Q.value_is) i })
