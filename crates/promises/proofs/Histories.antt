-- What a history makes, by induction over its calls: a sound table with its book, which holds the readings that were taken and not taken back. Where no call
-- was refused they are all of them.
use mathlib.Core.Path.{◌≡◌, refl, sym, ap, ap₂, ◌∙◌, subst}
use mathlib.Core.Logic.{◌≢◌}
use mathlib.Core.List.{List, [], ◌∷◌, ◌++◌, append-nil}
use Prim.Native.Nat.{ℕ, zero, suc}
use native.Mathlib.Omega.{arith}
use lib.Dec.{T}
use lib.IntN.{ℤ}
use lib.ListN.{take}
use lib.Seq.{take_all}
use Rattle.whole.specs.Lists.{All, Each}
use Rattle.whole.proofs.Tests.{T_true, T_false}
use Rattle.index.specs.Keys.{eq_z}
use Rattle.index.proofs.Equality.{eq_z_eq, eq_z_refl}
use Rattle.table.specs.Table.{Settings}
use Rattle.table.proofs.Lists.{all_tab}
use Rattle.book.specs.Book.{Numbered, Booked, entry_of, entries, OtherNumber}
use Rattle.book.specs.Calls.{Outcome, fresh_booked, parsed, enter_refusal, enter, merge_refusal, after_merge, withdraw_refusal, after_withdraw}
use Rattle.book.specs.Theorems.{Holds}
use Rattle.book.proofs.Answering.{enter_done, enter_refused, merge_done, merge_refused}
use Rattle.book.proofs.Booking.{fresh_keeps, merge_keeps}
use Rattle.book.proofs.Entering.{enter_all_lem, entered_holds, enter_leaves}
use Rattle.book.proofs.Keeping.{withdraw_keeps}
use Rattle.book.proofs.TakingBack.{withdraw_takes_back}
use Rattle.reader.specs.Items.{settings_of}
use Rattle.reader.specs.Walk.{items, before}
use Rattle.load.specs.Loading.{start_refusal, load}
use Rattle.load.specs.Numbering.{numbering}
use Rattle.load.specs.Theorems.{entered_of, table_of}
use Rattle.load.proofs.Leaving.{load_accepted, start_zero}
use Rattle.promises.specs.History.{starting, entering, merging, offering, withdrawing, loading, capacity, settings_in, run, unless_refused, without_number, taken, readings}
use Rattle.promises.specs.Order.{BookIsTaken, AllTaken}
use Rattle.promises.proofs.Refusals.{refusals_exact}
use Rattle.promises.proofs.Building.{holds_carries}
use Rattle.promises.proofs.Stopping.{load_stops, load_reads}
use Rattle.promises.proofs.LogReadings.{log_sized}

-- ---- a table that holds the same, told in another way
pub told : (c : Settings) (b : Booked) {es fs : List Numbered} → es ≡ fs → Holds c b es → Holds c b fs
told c b e = subst (Holds c b) e

-- with nothing more it holds the same
no_more : (c : Settings) (b : Booked) (es : List Numbered) → Holds c b es → Holds c b (es ++ [])
no_more c b es = told c b (sym (append-nil es))

-- ---- readings entered: those taken come after those that it holds
pub enter_taken : (c : Settings) (b : Booked) (es : List Numbered) (l : List ℤ) → Holds c b es → Holds c (enter c b l).booked (es ++ take (enter c b l).taken (parsed c.d l))
enter_taken c b es l H = go (enter_refusal c b l) refl
  where
    go : (x : ℕ) → enter_refusal c b l ≡ x → Holds c (enter c b l).booked (es ++ take (enter c b l).taken (parsed c.d l))
    go zero e = told c (enter c b l).booked (ap (λ (fs : List Numbered). fs ++ take (enter c b l).taken (parsed c.d l)) H.holds) (enter_leaves c b l e)
    go (suc x) e = subst (λ (o : Outcome). Holds c o.booked (es ++ take o.taken (parsed c.d l))) (sym (enter_refused c b l x e)) (no_more c b es H)

-- ---- a table merged in, whatever it is: all or nothing
pub merge_taken : (c : Settings) (b : Booked) (e : Settings) (s : Booked) (es : List Numbered) → Holds c b es
    → Holds c (after_merge c b e s) (es ++ unless_refused (merge_refusal c b e s) (entries e.d s.table.n s.book))
merge_taken c b e s es H = go (merge_refusal c b e s) refl
  where
    fs : List Numbered
    fs = entries e.d s.table.n s.book

    go : (x : ℕ) → merge_refusal c b e s ≡ x → Holds c (after_merge c b e s) (es ++ unless_refused x fs)
    go zero z = subst (λ (u : Booked). Holds c u (es ++ fs)) (sym (merge_done c b e s z)) (told c _ (ap (λ (l : List Numbered). l ++ fs) H.holds) (merge_keeps c b e s z))
    go (suc x) z = subst (λ (u : Booked). Holds c u (es ++ [])) (sym (merge_refused c b e s x z)) (no_more c b es H)

-- ---- the others, where the reading of a number is taken back
others_stay : (k : ℤ) (es : List Numbered) → All (λ e. e.number ≢ k) es → without_number k es ≡ es
unfolding without_number
others_stay k [] h = refl
others_stay k (e ∷ es) (n, h) = rw (T_false (eq_z e.number k) (λ t. n (eq_z_eq e.number k t))) (ap (λ (l : List Numbered). e ∷ l) (others_stay k es h))

all_others : (k : ℤ) (e : Numbered) → e.number ≡ k → (es : List Numbered) → All (OtherNumber e) es → All (λ e. e.number ≢ k) es
all_others k e q [] h = tt
all_others k e q (x ∷ es) (n, h) = (λ p. n (q ∙ sym p), all_others k e q es h)

one_goes : (k : ℤ) (a : List Numbered) (e : Numbered) (z : List Numbered) → e.number ≡ k → Each OtherNumber (a ++ (e ∷ z)) → without_number k (a ++ (e ∷ z)) ≡ a ++ z
unfolding without_number
one_goes k [] e z q (n, h) = rw (T_true (eq_z e.number k) (subst (λ (j : ℤ). T (eq_z e.number j)) q (eq_z_refl e.number))) (others_stay k z (all_others k e q z n))
one_goes k (x ∷ a) e z q (n, h) =
    rw (T_false (eq_z x.number k) (λ t. first a n (eq_z_eq x.number k t ∙ sym q))) (ap (λ (l : List Numbered). x ∷ l) (one_goes k a e z q h))
  where
    -- the number of x is not that of e
    first : (a : List Numbered) → All (OtherNumber x) (a ++ (e ∷ z)) → x.number ≢ e.number
    first [] h = h.0
    first (y ∷ a) h = first a h.1

-- ---- a reading taken back
pub withdraw_refused : (c : Settings) (b : Booked) (k : ℤ) (x : ℕ) → withdraw_refusal c b k ≡ suc x → after_withdraw c b k ≡ b
unfolding after_withdraw
withdraw_refused c b k x e = rw (e, after_withdraw)

-- where it is refused no entry has the number
none_has : (c : Settings) (b : Booked) (es : List Numbered) (k : ℤ) (x : ℕ) → Holds c b es → withdraw_refusal c b k ≡ suc x → All (λ e. e.number ≢ k) es
unfolding entries
none_has c b es k x H e = subst (All (λ e. e.number ≢ k)) H.holds (all_tab (λ e. e.number ≢ k) b.table.n (entry_of c.d b.book) (λ j l q.
    absurd (omega (arith, sym e ∙ (refusals_exact.withdraw_call c b k).none.1 (H.fine_book, (j, l, q))))))

pub withdraw_taken : (c : Settings) (b : Booked) (es : List Numbered) (k : ℤ) → Holds c b es → Holds c (after_withdraw c b k) (without_number k es)
withdraw_taken c b es k H = go (withdraw_refusal c b k) refl
  where
    go : (x : ℕ) → withdraw_refusal c b k ≡ x → Holds c (after_withdraw c b k) (without_number k es)
    go zero e =
        let W = withdraw_takes_back c b k e in
        let X = withdraw_keeps c b W.place H.fine_book W.inside in
        let y = entry_of c.d b.book W.place in
        let es_are : es ≡ X.before ++ (y ∷ X.behind) = sym H.holds ∙ X.held in
        let rest = one_goes k X.before y X.behind W.numbered (subst (Each OtherNumber) es_are (holds_carries c b es H).apart) in
        subst (λ (u : Booked). Holds c u (without_number k es)) (sym W.after_is)
        (record { fine_book = X.fine_book; holds = X.holds ∙ sym (ap (without_number k) es_are ∙ rest) })
    go (suc x) e = subst (λ (u : Booked). Holds c u (without_number k es)) (sym (withdraw_refused c b k x e)) (told c b (sym (others_stay k es (none_has c b es k x H e))) H)

-- ---- a log: a fresh table with the readings before the place told
load_taken : (l : List ℕ) (b : Booked) → start_refusal l b ≡ 0 → Holds (settings_of l) (load l b).booked (numbering [] (before (load l b).offset (items l)))
load_taken l b e =
    let c = settings_of l in
    let L = load_stops l b e in
    let rs = before (load l b).offset (items l) in
    let es = numbering [] rs in
    let A = (load_accepted l b e).made in
    let u = fresh_booked c b.room in
    let all = take_all (entered_of l b.room rs).taken es (omega (arith, enter_all_lem c es u L.all_taken)) in
    subst (λ (u : Booked). Holds c u es) (sym L.booked_is)
    (told c (table_of l b.room rs) (ap₂ ◌++◌ A.holds all) (entered_holds c es u A.fine_book (log_sized l (load l b).offset)))

-- ---- a history
pub book_is_taken : BookIsTaken
unfolding capacity run taken
book_is_taken d S (starting C b) e = fresh_keeps (record { d = d; S = S; C = C }) b e
book_is_taken d S (entering h l) k = enter_taken (settings_in d S h) (run d S h) (taken d S h) l (book_is_taken d S h k)
book_is_taken d S (merging h g) (k, j) =
    let c = settings_in d S h in
    let e = settings_in d S g in
    subst (λ (fs : List Numbered). Holds c (after_merge c (run d S h) e (run d S g)) (taken d S h ++ unless_refused (merge_refusal c (run d S h) e (run d S g)) fs)) (book_is_taken d S g j).holds
    (merge_taken c (run d S h) e (run d S g) (taken d S h) (book_is_taken d S h k))
book_is_taken d S (offering h e s) k = merge_taken (settings_in d S h) (run d S h) e s (taken d S h) (book_is_taken d S h k)
book_is_taken d S (withdrawing h k) j = withdraw_taken (settings_in d S h) (run d S h) (taken d S h) k (book_is_taken d S h j)
book_is_taken d S (loading l b) (p, q, e) =
    subst (λ (c : Settings). Holds c (load l b).booked (numbering [] (before (load l b).offset (items l)))) (λ i. record { d = p i; S = q i; C = (settings_of l).C }) (load_taken l b e)

-- ---- where no call was refused, all of its readings were taken
enter_open : (c : Settings) (b : Booked) (l : List ℤ) → (enter c b l).number ≡ 0 → enter_refusal c b l ≡ 0
enter_open c b l e = go (enter_refusal c b l) refl
  where
    go : (x : ℕ) → enter_refusal c b l ≡ x → x ≡ 0
    go zero q = refl
    go (suc x) q = absurd (omega (arith, ap (λ (o : Outcome). o.number) (sym (enter_refused c b l x q)) ∙ e))

pub list_whole : (c : Settings) (b : Booked) (l : List ℤ) → (enter c b l).number ≡ 0 → take (enter c b l).taken (parsed c.d l) ≡ parsed c.d l
list_whole c b l e =
    let q = enter_done c b l (enter_open c b l e) in
    let n = enter_all_lem c (parsed c.d l) b (ap (λ (o : Outcome). o.number) (sym q) ∙ e) in
    take_all (enter c b l).taken (parsed c.d l) (omega (arith, n, ap (λ (o : Outcome). o.taken) q))

pub all_taken : AllTaken
unfolding capacity run taken readings
all_taken d S (starting C b) e = (e, refl)
all_taken d S (entering h l) (k, e) = let (b, p) = all_taken d S h k in (b, ap₂ ◌++◌ p (list_whole (settings_in d S h) (run d S h) l e))
all_taken d S (merging h g) (k, j, e) =
    let (b, p) = all_taken d S h k in
    let (a, q) = all_taken d S g j in
    ((b, a), ap₂ ◌++◌ p (ap (λ (x : ℕ). unless_refused x (taken d S g)) e ∙ q))
all_taken d S (offering h e s) (k, z) =
    let (b, p) = all_taken d S h k in
    (b, ap₂ ◌++◌ p (ap (λ (x : ℕ). unless_refused x (entries e.d s.table.n s.book)) z))
all_taken d S (withdrawing h k) (j, e) = let (b, p) = all_taken d S h j in (b, ap (without_number k) p)
all_taken d S (loading l b) (p, q, e) = ((p, q, start_zero l b e), ap (numbering []) (load_reads l b e))
