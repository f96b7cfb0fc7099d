-- Each contract states the parts of an outcome by equations: so the outcome made of their right sides is allowed, and any two are equal part by part.
use mathlib.Core.Path.{◌≡◌, refl, sym, ap, ◌∙◌, subst}
use mathlib.Core.List.{List}
use Prim.Native.Nat.{ℕ, suc}
use lib.IntN.{ℤ}
use lib.ListN.{length}
use contract.Lifetimes.{Lfts}
use denote.Triple.Entry.{Args}
use denote.Triple.Clauses.{Ended}
use Rattle.whole.specs.Lists.{splice}
use Rattle.std.specs.Prelude.{Result}
use Rattle.lattice.specs.declared.refusals.Refusal.{Refusal}
use Rattle.lattice.specs.Refusals.{told}
use Rattle.lattice.proofs.Refusing.{one_told}
use Rattle.table.specs.declared.Head.{Head}
use Rattle.table.specs.declared.Refused.{Refused}
use Rattle.table.specs.Table.{Settings}
use Rattle.table.specs.Calls.{lent}
use Rattle.table.specs.Heads.{settings, head_of, head_told, told_beside, with_counts}
use Rattle.book.specs.Book.{Booked}
use Rattle.book.specs.Calls.{fresh_refusal, after_fresh, enter, merge_refusal, after_merge, withdraw_refusal, after_withdraw}
use Rattle.book.specs.Heads.{booked, AnswersBook, EntersBook}
use Rattle.book.proofs.Answering.{fresh_refused, enter_refused, merge_refused}
use Rattle.listing.specs.Listing.{list_refusal, after_list, Lists}
use Rattle.filter.specs.Filter.{Lent, filter_refusal, after_filter, Filters}
use Rattle.reader.specs.Reader.{moved_on}
use Rattle.reader.proofs.Saying.{one_said, said_there, one_found, found_there}
use Rattle.load.specs.Loading.{load, Loads}
use Rattle.report.specs.Report.{report, fitting, Reports}
use Rattle.export.specs.Numbers as numbers
use Rattle.promises.specs.Allowed.{Only, One, Ensures, Requires, AnswerAndMemory, Allows, Answering}
use Rattle.promises.proofs.Telling.{Told, fresh_told, call_told, enter_told, merge_told, withdraw_told, load_told, head_by, head_tells, head_handed, one_head}
use Rattle.promises.specs.EveryCall.{EveryCallOne, ReaderOne, ReaderSays, RefusedLeavesAll}

-- ---- what a call on a table with its book answers and leaves
-- beside its number
record Left : Type 0 where
  head : Head
  keys : List ℤ
  sums : List ℤ
  index : List ℕ
  book : List ℤ

abbrev AnswerAllows : Head → ℕ → Booked → ℕ × Left → Type 0
AnswerAllows h x b o = AnswersBook h x b o.0 o.1.head o.1.keys o.1.sums o.1.index o.1.book

-- what a call leaves that hands back the head h with the counts of b and leaves the memory of b
abbrev left_of : Head → Booked → Left
left_of h b = let t = b.table in record { head = with_counts h t.n t.m; keys = t.keys; sums = t.sums; index = t.index; book = b.book }

answers_only : (h : Head) (x : ℕ) (b : Booked) → Only (AnswerAllows h x b)
answers_only h x b o u A B = λ i. (
  (A.answers.number_is ∙ sym B.answers.number_is) i,
  record {
    head = (A.answers.head_is ∙ sym B.answers.head_is) i;
    keys = (A.answers.keys_are ∙ sym B.answers.keys_are) i;
    sums = (A.answers.sums_are ∙ sym B.answers.sums_are) i;
    index = (A.answers.index_are ∙ sym B.answers.index_are) i;
    book = (A.book_is ∙ sym B.book_is) i;
  },
)

answers_allowed : (h : Head) (x : ℕ) (b : Booked) → AnswerAllows h x b (x, left_of h b)
answers_allowed h x b = record { answers = record { number_is = refl; head_is = refl; keys_are = refl; sums_are = refl; index_are = refl }; book_is = refl }

answers_one : (h : Head) (x : ℕ) (b : Booked) → One (AnswerAllows h x b)
answers_one h x b = record { outcome = (x, left_of h b); allowed = answers_allowed h x b; only = answers_only h x b }

abbrev enters_one : (h : Head) (b : Booked) (l : List ℤ)
    → One (λ (o : ℕ × (ℕ × Left)). EntersBook h (enter (settings h) b l) o.1.0 o.0 o.1.1.head o.1.1.keys o.1.1.sums o.1.1.index o.1.1.book)
enters_one h b l = let o = enter (settings h) b l in record {
  outcome = (o.number, (o.taken, left_of h o.booked));
  allowed = record { taken_is = refl; answers = answers_allowed h o.number o.booked };
  only = λ u v A B. let e = answers_only h o.number o.booked (u.0, u.1.1) (v.0, v.1.1) A.answers B.answers in λ i. ((e i).0, ((A.taken_is ∙ sym B.taken_is) i, (e i).1));
}

-- the target's head h and the source's g
merges_one : (h : Head) (b : Booked) (g : Head) (s : Booked) → One (AnswerAllows h (merge_refusal (settings h) b (settings g) s) (after_merge (settings h) b (settings g) s))
merges_one h b g s = answers_one h (merge_refusal (settings h) b (settings g) s) (after_merge (settings h) b (settings g) s)

withdraws_one : (h : Head) (b : Booked) (k : ℤ) → One (AnswerAllows h (withdraw_refusal (settings h) b k) (after_withdraw (settings h) b k))
withdraws_one h b k = answers_one h (withdraw_refusal (settings h) b k) (after_withdraw (settings h) b k)

-- what a call that makes a table is lent, with a book of this room
abbrev lent_with : ℕ → List ℤ → List ℤ → List ℕ → List ℤ → Booked
lent_with room keys sums index book = record { table = lent keys sums index; room = room; book = book }

abbrev loads_one : (l : List ℕ) (b : Booked)
    → One (λ (o : ℕ × (ℕ × Left)). Loads (head_of (load l b).settings (load l b).booked.room) (load l b) o.0 o.1.0 o.1.1.head o.1.1.keys o.1.1.sums o.1.1.index o.1.1.book)
loads_one l b = let o = load l b in let h = head_of o.settings o.booked.room in record {
  outcome = (o.number, (o.offset, left_of h o.booked));
  allowed = record { offset_is = refl; answers = answers_allowed h o.number o.booked };
  only = λ u v A B. let e = answers_only h o.number o.booked (u.0, u.1.1) (v.0, v.1.1) A.answers B.answers in λ i. ((e i).0, ((A.offset_is ∙ sym B.offset_is) i, (e i).1));
}

-- ---- calls that leave lists
abbrev lists_one : (c : Settings) (b : Booked) (list : List ℕ) → One (λ (o : ℕ × List ℕ). Lists c b list o.0 o.1)
lists_one c b list = record {
  outcome = (list_refusal c b list, after_list c b list);
  allowed = record { number_is = refl; list_is = refl };
  only = λ u v A B. λ i. ((A.number_is ∙ sym B.number_is) i, (A.list_is ∙ sym B.list_is) i);
}

abbrev filters_one : (c : Settings) (b : Booked) (queries : List ℤ) (l : Lent) → One (λ (o : ℕ × Lent). Filters c b queries l o.0 o.1.first o.1.second o.1.values o.1.codes)
filters_one c b queries l = record {
  outcome = (filter_refusal c b queries l, after_filter c b queries l);
  allowed = record { number_is = refl; first_is = refl; second_is = refl; values_are = refl; codes_are = refl };
  only = λ u v A B. λ i. (
    (A.number_is ∙ sym B.number_is) i,
    record {
      first = (A.first_is ∙ sym B.first_is) i;
      second = (A.second_is ∙ sym B.second_is) i;
      values = (A.values_are ∙ sym B.values_are) i;
      codes = (A.codes_are ∙ sym B.codes_are) i;
    },
  );
}

reports_one : (l buffer : List ℕ) → One (λ (o : ℕ × List ℕ). Reports l buffer o.0 o.1)
reports_one l buffer = let text = fitting (length buffer) (report l) in record {
  outcome = (length text, splice buffer 0 text);
  allowed = record { bytes_are = refl; after_is = refl };
  only = λ a b A B. λ i. ((A.bytes_are ∙ sym B.bytes_are) i, (A.after_is ∙ sym B.after_is) i);
}

-- ---- calls that are done or refused
-- where one outcome with its number is allowed, and the number is told, one with an end that tells it is
told_one : {A : Type 0} {Allows : ℕ × A → Type 0} (O : One Allows) → Told O.outcome.0 → One (λ (o : Result (Unit {0}) Refusal × A). Allows (told o.0, o.1))
told_one {Allows = Allows} O t = record {
  outcome = (t.by, O.outcome.1);
  allowed = subst Allows (λ i. (sym t.tells i, O.outcome.1)) O.allowed;
  only = λ u v p q. let e = O.only (told u.0, u.1) (told v.0, v.1) p q in λ i. (one_told u.0 v.0 (ap (λ o. o.0) e) i, (e i).1);
}

-- what is left beside a head, and the refusal if any
record Memory : Type 0 where
  keys : List ℤ
  sums : List ℤ
  index : List ℕ
  book : List ℤ

abbrev HandsBack : Head → ℕ → Booked → Result Head Refused × Memory → Type 0
HandsBack h x b o = AnswersBook h x b (told_beside o.0) (head_told o.0) o.1.keys o.1.sums o.1.index o.1.book

hands_back_one : (h : Head) (x : ℕ) (b : Booked) → Told x → One (HandsBack h x b)
hands_back_one h x b t = let after = with_counts h b.table.n b.table.m in record {
  outcome = (head_by after t.by, record { keys = b.table.keys; sums = b.table.sums; index = b.table.index; book = b.book });
  allowed = record {
    answers = record {
      number_is = head_tells after t.by ∙ t.tells;
      head_is = head_handed after t.by;
      keys_are = refl;
      sums_are = refl;
      index_are = refl;
    };
    book_is = refl;
  };
  only = λ u v A B. λ i. (
    one_head u.0 v.0 (A.answers.number_is ∙ sym B.answers.number_is) (A.answers.head_is ∙ sym B.answers.head_is) i,
    record {
      keys = (A.answers.keys_are ∙ sym B.answers.keys_are) i;
      sums = (A.answers.sums_are ∙ sym B.answers.sums_are) i;
      index = (A.answers.index_are ∙ sym B.answers.index_are) i;
      book = (A.book_is ∙ sym B.book_is) i;
    },
  );
}

fresh_one : (c : Settings) (b : Booked) (room : ℕ) → One (HandsBack (head_of c room) (fresh_refusal c b) (after_fresh c b))
fresh_one c b room = hands_back_one (head_of c room) _ (after_fresh c b) (fresh_told c b)

merge_one : (h : Head) (b : Booked) (g : Head) (s : Booked) → One (HandsBack h (merge_refusal (settings h) b (settings g) s) (after_merge (settings h) b (settings g) s))
merge_one h b g s = hands_back_one h _ (after_merge (settings h) b (settings g) s) (merge_told (settings h) b (settings g) s)

withdraw_one : (h : Head) (b : Booked) (k : ℤ) → One (HandsBack h (withdraw_refusal (settings h) b k) (after_withdraw (settings h) b k))
withdraw_one h b k = hands_back_one h _ (after_withdraw (settings h) b k) (withdraw_told (settings h) b k)

-- ---- the contracts
-- one outcome stays one where outcomes are told in another way, there and back
module _ {A B : Type 0} (f : B → A) (g : A → B) (there : (a : A) → f (g a) ≡ a) (back : (b : B) → g (f b) ≡ b) {Allows : A → Type 0} (O : One Allows) where
  one_retold : One (λ (b : B). Allows (f b))
  one_retold = record {
    outcome = g O.outcome;
    allowed = subst Allows (sym (there O.outcome)) O.allowed;
    only = λ a b p q. sym (back a) ∙ ap g (O.only (f a) (f b) p q) ∙ back b;
  }

-- what is learnt from an outcome is what was to be shown for it, so there is no other
answering : {F : Ended} {shown learnt : Ensures F} {asked : Requires F} → ((κs : Lfts F.signature.lifetimes) (a : Args F.signature κs) → One (Allows F shown κs a))
    → ((κs : Lfts F.signature.lifetimes) (a : Args F.signature κs) (o : AnswerAndMemory F κs a) → Allows F learnt κs a o → Allows F shown κs a o)
    → ((κs : Lfts F.signature.lifetimes) (a : Args F.signature κs) → asked κs a) → Answering F shown learnt asked
answering one same asks = record { one_outcome = one; no_other = λ κs a o u p q. (one κs a).only o u (same κs a o p) (same κs a u q); asks_nothing = asks }

-- the parts of a head and of what is left, in the order in which each function has them
pub every_call_one : EveryCallOne
every_call_one = record {
  fresh = answering (λ κs a. one_retold
      (λ o. (o.0, record { keys = o.1.1.1.1.1.0; sums = o.1.1.1.1.1.1.0; index = o.1.1.1.1.1.1.1.0; book = o.1.1.1.1.1.1.1.1.0 }))
      (λ o. (o.0, (tt, (tt, (tt, (tt, (o.1.keys, (o.1.sums, (o.1.index, (o.1.book, tt))))))))))
      (λ o. refl)
      (λ o. refl)
      (let c : Settings = record { d = a.0; S = a.1.0; C = a.1.1.0 } in let room = a.1.1.1.0 in let b = lent_with room a.1.1.1.1.0.now a.1.1.1.1.1.0.now a.1.1.1.1.1.1.0.now a.1.1.1.1.1.1.1.0.now in fresh_one c b room)) (λ κs a o p. p) (λ κs a. tt);
  enter = answering (λ κs a. one_retold
      (λ o. (o.0.end, (o.0.taken, record { head = o.0.head; keys = o.1.1.0; sums = o.1.1.1.0; index = o.1.1.1.1.0; book = o.1.1.1.1.1.0 })))
      (λ o. (record { taken = o.1.0; end = o.0; head = o.1.1.head }, (tt, (o.1.1.keys, (o.1.1.sums, (o.1.1.index, (o.1.1.book, (tt, tt))))))))
      (λ o. refl)
      (λ o. refl)
      (let b = booked a.0 a.1.0.now a.1.1.0.now a.1.1.1.0.now a.1.1.1.1.0.now in let l = a.1.1.1.1.1.0.now in told_one (enters_one a.0 b l) (enter_told (settings a.0) b l))) (λ κs a o p. p) (λ κs a. tt);
  merge = answering (λ κs a. one_retold
      (λ o. (o.0, record { keys = o.1.1.0; sums = o.1.1.1.0; index = o.1.1.1.1.0; book = o.1.1.1.1.1.0 }))
      (λ o. (o.0, (tt, (o.1.keys, (o.1.sums, (o.1.index, (o.1.book, (tt, (tt, (tt, (tt, (tt, tt))))))))))))
      (λ o. refl)
      (λ o. refl)
      (merge_one a.0 (booked a.0 a.1.0.now a.1.1.0.now a.1.1.1.0.now a.1.1.1.1.0.now) a.1.1.1.1.1.0 (booked a.1.1.1.1.1.0 a.1.1.1.1.1.1.0.now a.1.1.1.1.1.1.1.0.now a.1.1.1.1.1.1.1.1.0.now a.1.1.1.1.1.1.1.1.1.0.now))) (λ κs a o p. p) (λ κs a. tt);
  withdraw = answering (λ κs a. one_retold
      (λ o. (o.0, record { keys = o.1.1.0; sums = o.1.1.1.0; index = o.1.1.1.1.0; book = o.1.1.1.1.1.0 }))
      (λ o. (o.0, (tt, (o.1.keys, (o.1.sums, (o.1.index, (o.1.book, (tt, tt))))))))
      (λ o. refl)
      (λ o. refl)
      (withdraw_one a.0 (booked a.0 a.1.0.now a.1.1.0.now a.1.1.1.0.now a.1.1.1.1.0.now) a.1.1.1.1.1.0)) (λ κs a o p. p) (λ κs a. tt);
  list = answering (λ κs a. one_retold
      (λ o. (o.0, o.1.1.1.1.1.1.0))
      (λ o. (o.0, (tt, (tt, (tt, (tt, (tt, (o.1, tt))))))))
      (λ o. refl)
      (λ o. refl)
      (let c = settings a.0 in let b = booked a.0 a.1.0.now a.1.1.0.now a.1.1.1.0.now a.1.1.1.1.0.now in told_one (lists_one c b a.1.1.1.1.1.0.now) (call_told c b _))) (λ κs a o p. p) (λ κs a. tt);
  filter = answering (λ κs a. one_retold
      (λ o. (o.0, record { first = o.1.1.1.1.1.1.0; second = o.1.1.1.1.1.1.1.0; values = o.1.1.1.1.1.1.1.1.1.0; codes = o.1.1.1.1.1.1.1.1.1.1.0 }))
      (λ o. (o.0, (tt, (tt, (tt, (tt, (tt, (o.1.first, (o.1.second, (tt, (o.1.values, (o.1.codes, tt))))))))))))
      (λ o. refl)
      (λ o. refl)
      (let c = settings a.0 in let b = booked a.0 a.1.0.now a.1.1.0.now a.1.1.1.0.now a.1.1.1.1.0.now in let l : Lent = record { first = a.1.1.1.1.1.0.now; second = a.1.1.1.1.1.1.0.now; values = a.1.1.1.1.1.1.1.1.0.now; codes = a.1.1.1.1.1.1.1.1.1.0.now } in told_one (filters_one c b a.1.1.1.1.1.1.1.0.now l) (call_told c b _))) (λ κs a o p. p) (λ κs a. tt);
  load = answering (λ κs a. one_retold
      (λ o. (o.0.end, (o.0.offset, record { head = o.0.head; keys = o.1.1.1.0; sums = o.1.1.1.1.0; index = o.1.1.1.1.1.0; book = o.1.1.1.1.1.1.0 })))
      (λ o. (record { end = o.0; offset = o.1.0; head = o.1.1.head }, (tt, (tt, (o.1.1.keys, (o.1.1.sums, (o.1.1.index, (o.1.1.book, tt))))))))
      (λ o. refl)
      (λ o. refl)
      (let l = a.0.now in let b = lent_with a.1.0 a.1.1.0.now a.1.1.1.0.now a.1.1.1.1.0.now a.1.1.1.1.1.0.now in told_one (loads_one l b) (load_told l b))) (λ κs a o p. p) (λ κs a. tt);
  report = answering (λ κs a. one_retold
      (λ o. (o.0, o.1.1.0))
      (λ o. (o.0, (tt, (o.1, tt))))
      (λ o. refl)
      (λ o. refl)
      (reports_one a.0.now a.1.0.now)) (λ κs a o p. p) (λ κs a. tt);
  vimrothi_fresh = answering (λ κs a. one_retold
      (λ o. (o.0, record { head = numbers.head_from o.1.0 o.1.1.0 o.1.1.1.0 o.1.1.1.1.0 o.1.1.1.1.1.0 o.1.1.1.1.1.1.0; keys = o.1.1.1.1.1.1.1.0; sums = o.1.1.1.1.1.1.1.1.0; index = o.1.1.1.1.1.1.1.1.1.0; book = o.1.1.1.1.1.1.1.1.1.1.0 }))
      (λ o. (o.0, (o.1.head.d, (o.1.head.fineness, (o.1.head.capacity, (o.1.head.room, (o.1.head.readings, (o.1.head.points, (o.1.keys, (o.1.sums, (o.1.index, (o.1.book, tt))))))))))))
      (λ o. refl)
      (λ o. refl)
      (let c : Settings = record { d = a.0.now; S = a.1.0.now; C = a.1.1.0.now } in let room = a.1.1.1.0.now in let b = lent_with room a.1.1.1.1.1.1.0.now a.1.1.1.1.1.1.1.0.now a.1.1.1.1.1.1.1.1.0.now a.1.1.1.1.1.1.1.1.1.0.now in answers_one (head_of c room) (fresh_refusal c b) (after_fresh c b))) (λ κs a o p. p) (λ κs a. tt);
  vimrothi_enter = answering (λ κs a. one_retold
      (λ o. (o.0, (o.1.1.1.1.1.1.1.1.1.1.1.1.0, record { head = numbers.head_from o.1.0 o.1.1.0 o.1.1.1.0 o.1.1.1.1.0 o.1.1.1.1.1.0 o.1.1.1.1.1.1.0; keys = o.1.1.1.1.1.1.1.0; sums = o.1.1.1.1.1.1.1.1.0; index = o.1.1.1.1.1.1.1.1.1.0; book = o.1.1.1.1.1.1.1.1.1.1.0 })))
      (λ o. (o.0, (o.1.1.head.d, (o.1.1.head.fineness, (o.1.1.head.capacity, (o.1.1.head.room, (o.1.1.head.readings, (o.1.1.head.points, (o.1.1.keys, (o.1.1.sums, (o.1.1.index, (o.1.1.book, (tt, (o.1.0, tt))))))))))))))
      (λ o. refl)
      (λ o. refl)
      (let h = numbers.head_from a.0.now a.1.0.now a.1.1.0.now a.1.1.1.0.now a.1.1.1.1.0.now a.1.1.1.1.1.0.now in enters_one h (booked h a.1.1.1.1.1.1.0.now a.1.1.1.1.1.1.1.0.now a.1.1.1.1.1.1.1.1.0.now a.1.1.1.1.1.1.1.1.1.0.now) a.1.1.1.1.1.1.1.1.1.1.0.now)) (λ κs a o p. p) (λ κs a. tt);
  vimrothi_merge = answering (λ κs a. one_retold
      (λ o. (o.0, record { head = numbers.head_from o.1.0 o.1.1.0 o.1.1.1.0 o.1.1.1.1.0 o.1.1.1.1.1.0 o.1.1.1.1.1.1.0; keys = o.1.1.1.1.1.1.1.0; sums = o.1.1.1.1.1.1.1.1.0; index = o.1.1.1.1.1.1.1.1.1.0; book = o.1.1.1.1.1.1.1.1.1.1.0 }))
      (λ o. (o.0, (o.1.head.d, (o.1.head.fineness, (o.1.head.capacity, (o.1.head.room, (o.1.head.readings, (o.1.head.points, (o.1.keys, (o.1.sums, (o.1.index, (o.1.book, (tt, (tt, (tt, (tt, (tt, (tt, (tt, (tt, (tt, (tt, tt))))))))))))))))))))))
      (λ o. refl)
      (λ o. refl)
      (let h = numbers.head_from a.0.now a.1.0.now a.1.1.0.now a.1.1.1.0.now a.1.1.1.1.0.now a.1.1.1.1.1.0.now in let g = numbers.head_from a.1.1.1.1.1.1.1.1.1.1.0 a.1.1.1.1.1.1.1.1.1.1.1.0 a.1.1.1.1.1.1.1.1.1.1.1.1.0 a.1.1.1.1.1.1.1.1.1.1.1.1.1.0 a.1.1.1.1.1.1.1.1.1.1.1.1.1.1.0 a.1.1.1.1.1.1.1.1.1.1.1.1.1.1.1.0 in merges_one h (booked h a.1.1.1.1.1.1.0.now a.1.1.1.1.1.1.1.0.now a.1.1.1.1.1.1.1.1.0.now a.1.1.1.1.1.1.1.1.1.0.now) g (booked g a.1.1.1.1.1.1.1.1.1.1.1.1.1.1.1.1.0.now a.1.1.1.1.1.1.1.1.1.1.1.1.1.1.1.1.1.0.now a.1.1.1.1.1.1.1.1.1.1.1.1.1.1.1.1.1.1.0.now a.1.1.1.1.1.1.1.1.1.1.1.1.1.1.1.1.1.1.1.0.now))) (λ κs a o p. p) (λ κs a. tt);
  vimrothi_withdraw = answering (λ κs a. one_retold
      (λ o. (o.0, record { head = numbers.head_from o.1.0 o.1.1.0 o.1.1.1.0 o.1.1.1.1.0 o.1.1.1.1.1.0 o.1.1.1.1.1.1.0; keys = o.1.1.1.1.1.1.1.0; sums = o.1.1.1.1.1.1.1.1.0; index = o.1.1.1.1.1.1.1.1.1.0; book = o.1.1.1.1.1.1.1.1.1.1.0 }))
      (λ o. (o.0, (o.1.head.d, (o.1.head.fineness, (o.1.head.capacity, (o.1.head.room, (o.1.head.readings, (o.1.head.points, (o.1.keys, (o.1.sums, (o.1.index, (o.1.book, (tt, tt)))))))))))))
      (λ o. refl)
      (λ o. refl)
      (let h = numbers.head_from a.0.now a.1.0.now a.1.1.0.now a.1.1.1.0.now a.1.1.1.1.0.now a.1.1.1.1.1.0.now in withdraws_one h (booked h a.1.1.1.1.1.1.0.now a.1.1.1.1.1.1.1.0.now a.1.1.1.1.1.1.1.1.0.now a.1.1.1.1.1.1.1.1.1.0.now) a.1.1.1.1.1.1.1.1.1.1.0)) (λ κs a o p. p) (λ κs a. tt);
  vimrothi_list = answering (λ κs a. one_retold
      (λ o. (o.0, o.1.1.1.1.1.1.1.1.1.1.1.0))
      (λ o. (o.0, (tt, (tt, (tt, (tt, (tt, (tt, (tt, (tt, (tt, (tt, (o.1, tt)))))))))))))
      (λ o. refl)
      (λ o. refl)
      (let h = numbers.head_from a.0 a.1.0 a.1.1.0 a.1.1.1.0 a.1.1.1.1.0 a.1.1.1.1.1.0 in lists_one (settings h) (booked h a.1.1.1.1.1.1.0.now a.1.1.1.1.1.1.1.0.now a.1.1.1.1.1.1.1.1.0.now a.1.1.1.1.1.1.1.1.1.0.now) a.1.1.1.1.1.1.1.1.1.1.0.now)) (λ κs a o p. p) (λ κs a. tt);
  vimrothi_filter = answering (λ κs a. one_retold
      (λ o. (o.0, record { first = o.1.1.1.1.1.1.1.1.1.1.1.0; second = o.1.1.1.1.1.1.1.1.1.1.1.1.0; values = o.1.1.1.1.1.1.1.1.1.1.1.1.1.1.0; codes = o.1.1.1.1.1.1.1.1.1.1.1.1.1.1.1.0 }))
      (λ o. (o.0, (tt, (tt, (tt, (tt, (tt, (tt, (tt, (tt, (tt, (tt, (o.1.first, (o.1.second, (tt, (o.1.values, (o.1.codes, tt)))))))))))))))))
      (λ o. refl)
      (λ o. refl)
      (let h = numbers.head_from a.0 a.1.0 a.1.1.0 a.1.1.1.0 a.1.1.1.1.0 a.1.1.1.1.1.0 in filters_one (settings h) (booked h a.1.1.1.1.1.1.0.now a.1.1.1.1.1.1.1.0.now a.1.1.1.1.1.1.1.1.0.now a.1.1.1.1.1.1.1.1.1.0.now) a.1.1.1.1.1.1.1.1.1.1.1.1.0.now (record { first = a.1.1.1.1.1.1.1.1.1.1.0.now; second = a.1.1.1.1.1.1.1.1.1.1.1.0.now; values = a.1.1.1.1.1.1.1.1.1.1.1.1.1.0.now; codes = a.1.1.1.1.1.1.1.1.1.1.1.1.1.1.0.now }))) (λ κs a o p. p) (λ κs a. tt);
  vimrothi_load = answering (λ κs a. one_retold
      (λ o. (o.0, (o.1.1.1.1.1.1.1.1.1.1.1.1.1.0, record { head = numbers.head_from o.1.1.1.0 o.1.1.1.1.0 o.1.1.1.1.1.0 o.1.1.1.1.1.1.0 o.1.1.1.1.1.1.1.0 o.1.1.1.1.1.1.1.1.0; keys = o.1.1.1.1.1.1.1.1.1.0; sums = o.1.1.1.1.1.1.1.1.1.1.0; index = o.1.1.1.1.1.1.1.1.1.1.1.0; book = o.1.1.1.1.1.1.1.1.1.1.1.1.0 })))
      (λ o. (o.0, (tt, (tt, (o.1.1.head.d, (o.1.1.head.fineness, (o.1.1.head.capacity, (o.1.1.head.room, (o.1.1.head.readings, (o.1.1.head.points, (o.1.1.keys, (o.1.1.sums, (o.1.1.index, (o.1.1.book, (o.1.0, tt)))))))))))))))
      (λ o. refl)
      (λ o. refl)
      (loads_one a.0.now (lent_with a.1.0 a.1.1.1.1.1.1.1.1.0.now a.1.1.1.1.1.1.1.1.1.0.now a.1.1.1.1.1.1.1.1.1.1.0.now a.1.1.1.1.1.1.1.1.1.1.1.0.now))) (λ κs a o p. p) (λ κs a. tt);
  vimrothi_report = answering (λ κs a. one_retold
      (λ o. (o.0, o.1.1.0))
      (λ o. (o.0, (tt, (o.1, tt))))
      (λ o. refl)
      (λ o. refl)
      (reports_one a.0.now a.1.0.now)) (λ κs a o p. p) (λ κs a. tt);
  reader_at = answering (λ κs a. record {
    outcome = (record { log = a.0; at = a.1.0 }, (tt, (tt, tt)));
    allowed = (refl, refl);
    only = λ o u p q. λ i. (record { log = (p.0 ∙ sym q.0) i; at = (p.1 ∙ sym q.1) i }, (tt, (tt, tt)));
  }) (λ κs a o p. p) (λ κs a. tt);
  next = answering (λ κs a. let r = said_there a.0.now.log.now a.0.now.at in record {
    outcome = (r.0, (moved_on a.0.now, tt));
    allowed = (r.1, refl);
    only = λ o u p q. λ i. (one_said o.0 u.0 (p.0 ∙ sym q.0) i, ((p.1 ∙ sym q.1) i, tt));
  }) (λ κs a o p. p) (λ κs a. tt);
  read_at = answering (λ κs a. let f = found_there a.0.now a.1.0 in record {
    outcome = (f.0, (tt, (tt, tt)));
    allowed = f.1;
    only = λ o u p q. λ i. (one_found o.0 u.0 (p ∙ sym q) i, (tt, (tt, tt)));
  }) (λ κs a o p. p) (λ κs a. tt);
}

-- ---- the reader
pub reader_one : ReaderOne
reader_one = record {
  reader_at_one = λ log at. record {
    outcome = record { log = log; at = at };
    allowed = (refl, refl);
    only = λ a b A B. λ i. record { log = (A.0 ∙ sym B.0) i; at = (A.1 ∙ sym B.1) i };
  };
  next_one = λ reader. let r = said_there reader.log.now reader.at in record {
    outcome = (r.0, moved_on reader);
    allowed = (r.1, refl);
    only = λ a b A B. λ i. (one_said a.0 b.0 (A.0 ∙ sym B.0) i, (A.1 ∙ sym B.1) i);
  };
}

pub reader_says : ReaderSays
reader_says = record { reader_at_says = λ w κs a r e. refl; next_says = λ w κs a r e. refl; reader_at_asks = λ w κs a. refl; next_asks = λ w κs a. refl }

-- ---- refused as a whole
withdraw_refused : (c : Settings) (b : Booked) (k : ℤ) (x : ℕ) → withdraw_refusal c b k ≡ suc x → after_withdraw c b k ≡ b
unfolding after_withdraw
withdraw_refused c b k x e = rw (e, after_withdraw)

pub refused_leaves_all : RefusedLeavesAll
unfolding after_list after_filter
refused_leaves_all = record {
  fresh_refused = fresh_refused;
  enter_refused = enter_refused;
  merge_refused = merge_refused;
  withdraw_refused = withdraw_refused;
  list_refused = λ c b list x e. rw (e, after_list);
  filter_refused = λ c b queries l x e. rw (e, after_filter);
}
