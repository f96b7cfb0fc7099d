-- The room of a book, which no call changes.
use mathlib.Core.Path.{◌≡◌, refl, ap, ◌∙◌}
use mathlib.Core.List.{List}
use Prim.Native.Nat.{ℕ, zero, suc}
use lib.IntN.{ℤ}
use Rattle.table.specs.Table.{Settings}
use Rattle.book.specs.Book.{Numbered, Booked}
use Rattle.book.specs.Calls.{Outcome, fresh_refusal, fresh_booked, after_fresh, enter_all, enter_refusal, enter, merge_refusal, after_merge, withdraw_refusal, after_withdraw}
use Rattle.book.proofs.Answering.{fresh_done, enter_done, enter_refused, merge_done, merge_refused}
use Rattle.book.proofs.Entering.{enter_ind}
use Rattle.book.proofs.TakingBack.{withdraw_takes_back}
use Rattle.reader.specs.Items.{settings_of}
use Rattle.reader.specs.Walk.{items}
use Rattle.load.specs.Loading.{Load, start_refusal, load}
use Rattle.load.proofs.Leaving.{walk_room, load_accepted}
use Rattle.promises.specs.History.{History, starting, entering, merging, offering, withdrawing, loading, room, settings_in, run, Begun}
use Rattle.promises.proofs.Histories.{withdraw_refused}

pub fresh_room : (c : Settings) (B : ℕ) → (fresh_booked c B).room ≡ B
unfolding fresh_booked
fresh_room c B = refl

-- ---- enter, merge and withdraw
pub enter_room : (c : Settings) (es : List Numbered) (b : Booked) → (enter_all c b es).booked.room ≡ b.room
enter_room c = enter_ind c (λ b es o. o.booked.room ≡ b.room) (λ b. refl) (λ b e es x q. refl) (λ b e es q ih. ih)

call_room : (c : Settings) (b : Booked) (l : List ℤ) → (enter c b l).booked.room ≡ b.room
call_room c b l = go (enter_refusal c b l) refl
  where
    go : (x : ℕ) → enter_refusal c b l ≡ x → (enter c b l).booked.room ≡ b.room
    go zero e = ap (λ (o : Outcome). o.booked.room) (enter_done c b l e) ∙ enter_room c _ b
    go (suc x) e = ap (λ (o : Outcome). o.booked.room) (enter_refused c b l x e)

merge_room : (c : Settings) (b : Booked) (e : Settings) (s : Booked) → (after_merge c b e s).room ≡ b.room
merge_room c b e s = go (merge_refusal c b e s) refl
  where
    go : (x : ℕ) → merge_refusal c b e s ≡ x → (after_merge c b e s).room ≡ b.room
    go zero z = ap (λ (u : Booked). u.room) (merge_done c b e s z)
    go (suc x) z = ap (λ (u : Booked). u.room) (merge_refused c b e s x z)

withdraw_room : (c : Settings) (b : Booked) (k : ℤ) → (after_withdraw c b k).room ≡ b.room
withdraw_room c b k = go (withdraw_refusal c b k) refl
  where
    go : (x : ℕ) → withdraw_refusal c b k ≡ x → (after_withdraw c b k).room ≡ b.room
    go zero z = ap (λ (u : Booked). u.room) (withdraw_takes_back c b k z).after_is
    go (suc x) z = ap (λ (u : Booked). u.room) (withdraw_refused c b k x z)

-- ---- a history
start_room : (c : Settings) (b : Booked) → fresh_refusal c b ≡ 0 → (after_fresh c b).room ≡ b.room
start_room c b e = ap (λ (u : Booked). u.room) (fresh_done c b e) ∙ fresh_room c b.room

load_room : (l : List ℕ) (b : Booked) → start_refusal l b ≡ 0 → (load l b).booked.room ≡ b.room
load_room l b e = ap (λ (o : Load). o.booked.room) (load_accepted l b e).is ∙ walk_room (settings_of l) (fresh_booked (settings_of l) b.room) (items l) ∙ fresh_room (settings_of l) b.room

pub room_is : (d S : ℕ) (h : History) → Begun d S h → (run d S h).room ≡ room h
unfolding run room
room_is d S (starting C b) e = start_room (record { d = d; S = S; C = C }) b e
room_is d S (entering h l) k = call_room (settings_in d S h) (run d S h) l ∙ room_is d S h k
room_is d S (merging h g) (k, j) = merge_room (settings_in d S h) (run d S h) (settings_in d S g) (run d S g) ∙ room_is d S h k
room_is d S (offering h e s) k = merge_room (settings_in d S h) (run d S h) e s ∙ room_is d S h k
room_is d S (withdrawing h k) j = withdraw_room (settings_in d S h) (run d S h) k ∙ room_is d S h j
room_is d S (loading l b) (p, q, e) = load_room l b e
