-- Tables with their books: what they are made of is what the book says.
use mathlib.Core.Path.{◌≡◌, sym, ap, subst, ◌∙◌}
use mathlib.Core.List.Perm
use mathlib.Core.List.{List, ◌∷◌, ◌++◌, map-append, Perm, perm_middle}
use Rattle.table.specs.Reading.{Reading}
use Rattle.book.specs.Book.{Numbered, Booked, entry_of, readings_of}
use Rattle.book.specs.Withdraw.{without}
use Rattle.book.proofs.Keeping.{withdraw_keeps}
use Rattle.book.proofs.TakingBack.{withdraw_takes_back, one_place}
use Rattle.promises.specs.Order.{Same}
use Rattle.promises.specs.Book.{held_readings, SoundIsMade, SameBooks, WithdrawForgets}
use Rattle.promises.proofs.Building.{carried_built, book_built}
use Rattle.promises.proofs.Order.{made, same_built}

pub sound_is_made : SoundIsMade
sound_is_made c b B = made c b.table (held_readings c b) (book_built c b B)

pub same_books : SameBooks
same_books c b e s B E p q = same_built c b.table (held_readings c b) e s.table (held_readings e s) p q (book_built c b B) (book_built e s E)

pub withdraw_forgets : WithdrawForgets
withdraw_forgets c b k done j less number e s E p q perm =
    let W = withdraw_takes_back c b k done in
    let same : W.place ≡ j = one_place c b W.fine_book W.place j W.inside less (W.numbered ∙ sym number) in
    let X = withdraw_keeps c b j W.fine_book less in
    subst (λ (a : Booked). Same c a.table e s.table) (sym (W.after_is ∙ ap (without c b) same))
    (same_built c (without c b j).table (readings_of (X.before ++ X.behind)) e s.table (held_readings e s) p q
    (carried_built c (without c b j).table (X.before ++ X.behind) X.fine_book.fine X.carries) (book_built e s E)
    (rest X.before X.behind (entry_of c.d b.book j) (held_readings e s) (subst (λ (es : List Numbered). Perm (readings_of es) ((entry_of c.d b.book j).reading ∷ held_readings e s)) X.held perm)))
  where
    -- the others are the same
    rest : (a z : List Numbered) (x : Numbered) (l : List Reading) → Perm (readings_of (a ++ (x ∷ z))) (x.reading ∷ l) → Perm (readings_of (a ++ z)) l
    rest a z x l h = Perm.cons_inv (Perm.trans (front (readings_of a) x.reading (readings_of z) (map-append (λ (e : Numbered). e.reading) a (x ∷ z)) (map-append (λ (e : Numbered). e.reading) a z)) h)
      where
        -- it may stand in front
        front : (u : List Reading) (y : Reading) (w : List Reading) {l m : List Reading} → l ≡ u ++ (y ∷ w) → m ≡ u ++ w → Perm (y ∷ m) l
        front u y w e f = rw (e, f) (Perm.symm (perm_middle u w))
