-- Demand 1: "Every call answers for every input: it does its work or refuses with document 01's number, and what a refusal hands back and leaves in
-- lent memory holds to the byte." The contract of each call allows one outcome, which is its answer with the final contents of all lent memory, and no
-- other; and no call asks anything. That a call ends, in an outcome that its contract allows, the checker answers for.
use Rattle.std.specs.Prelude.{◌≡◌, Option, Result, List, ℕ, suc, ◌+◌, ◌*◌, ◌≤◌, ◌<◌, ℤ}
use base.Logic.{emp}
use contract.Lifetimes.{Lfts}
use contract.Monad.{fact}
use Rattle.std.specs.Borrow.{Bor}
use denote.Triple.Entry.{Args, Res}
use denote.Triple.Clauses.{AtExit}
use borrow.Fn.World.{World}
use Rattle.whole.specs.Lists.{at}
use Rattle.lattice.specs.declared.refusals.Refusal.{Refusal}
use Rattle.table.specs.Table.{Settings, Table, entry}
use Rattle.book.specs.Book.{Booked}
use Rattle.book.specs.Calls.{lent_book, fresh_refusal, after_fresh, enter_refusal, enter, merge_refusal, after_merge, withdraw_refusal, after_withdraw}
use Rattle.listing.specs.Listing.{list_refusal, after_list}
use Rattle.filter.specs.Filter.{Lent, filter_refusal, after_filter}
use Rattle.reader.specs.declared.Reader.{Reader}
use Rattle.reader.specs.declared.kinds.Kind.{Kind}
use Rattle.reader.specs.Items.{item_said}
use Rattle.reader.specs.Reader.{here, moved_on}
use Rattle.promises.specs.Allowed.{One, Answering}
use Rattle.book.specs.contracts.fresh.fresh as fresh_call
use Rattle.book.proofs.fresh.fresh.Reads as fresh_call_reads
use Rattle.enter.specs.contracts.enter as enter_call
use Rattle.enter.proofs.enter.Reads as enter_call_reads
use Rattle.merge.specs.contracts.merge as merge_call
use Rattle.merge.proofs.merge.Reads as merge_call_reads
use Rattle.withdraw.specs.contracts.withdraw as withdraw_call
use Rattle.withdraw.proofs.withdraw.Reads as withdraw_call_reads
use Rattle.listing.specs.contracts.list as list_call
use Rattle.listing.proofs.list.Reads as list_call_reads
use Rattle.filter.specs.contracts.filter as filter_call
use Rattle.filter.proofs.filter.Reads as filter_call_reads
use Rattle.load.specs.contracts.load as load_call
use Rattle.load.proofs.load.Reads as load_call_reads
use Rattle.report.specs.contracts.report as report_call
use Rattle.report.proofs.report.Reads as report_call_reads
use Rattle.export.specs.contracts.vimrothi_fresh as fresh_for_C
use Rattle.export.proofs.vimrothi_fresh.Reads as fresh_for_C_reads
use Rattle.export.specs.contracts.vimrothi_enter as enter_for_C
use Rattle.export.proofs.vimrothi_enter.Reads as enter_for_C_reads
use Rattle.export.specs.contracts.vimrothi_merge as merge_for_C
use Rattle.export.proofs.vimrothi_merge.Reads as merge_for_C_reads
use Rattle.export.specs.contracts.vimrothi_withdraw as withdraw_for_C
use Rattle.export.proofs.vimrothi_withdraw.Reads as withdraw_for_C_reads
use Rattle.export.specs.contracts.vimrothi_list as list_for_C
use Rattle.export.proofs.vimrothi_list.Reads as list_for_C_reads
use Rattle.export.specs.contracts.vimrothi_filter as filter_for_C
use Rattle.export.proofs.vimrothi_filter.Reads as filter_for_C_reads
use Rattle.export.specs.contracts.vimrothi_load as load_for_C
use Rattle.export.proofs.vimrothi_load.Reads as load_for_C_reads
use Rattle.export.specs.contracts.vimrothi_report as report_for_C
use Rattle.export.proofs.vimrothi_report.Reads as report_for_C_reads
use Rattle.reader.specs.contracts.reader_at as reader_at_call
use Rattle.reader.proofs.reader_at.Reads as reader_at_call_reads
use Rattle.reader.specs.contracts.next as next_call
use Rattle.reader.proofs.next.Reads as next_call_reads
use Rattle.reader.specs.contracts.read_at as read_at_call
use Rattle.reader.proofs.read_at.Reads as read_at_call_reads

-- Statement: each call, each function of `export`, which the one of its name for C calls with the same clauses, and each function of the reader asks nothing, and its contract allows one outcome.
pub record EveryCallOne : Type 0 where
  pub fresh : Answering fresh_call.ended fresh_call_reads.Post fresh_call_reads.Learnt fresh_call_reads.Asked
  pub enter : Answering enter_call.ended enter_call_reads.Post enter_call_reads.Learnt enter_call_reads.Asked
  pub merge : Answering merge_call.ended merge_call_reads.Post merge_call_reads.Learnt merge_call_reads.Asked
  pub withdraw : Answering withdraw_call.ended withdraw_call_reads.Post withdraw_call_reads.Learnt withdraw_call_reads.Asked
  pub list : Answering list_call.ended list_call_reads.Post list_call_reads.Learnt list_call_reads.Asked
  pub filter : Answering filter_call.ended filter_call_reads.Post filter_call_reads.Learnt filter_call_reads.Asked
  pub load : Answering load_call.ended load_call_reads.Post load_call_reads.Learnt load_call_reads.Asked
  pub report : Answering report_call.ended report_call_reads.Post report_call_reads.Learnt report_call_reads.Asked
  pub vimrothi_fresh : Answering fresh_for_C.ended fresh_for_C_reads.Post fresh_for_C_reads.Learnt fresh_for_C_reads.Asked
  pub vimrothi_enter : Answering enter_for_C.ended enter_for_C_reads.Post enter_for_C_reads.Learnt enter_for_C_reads.Asked
  pub vimrothi_merge : Answering merge_for_C.ended merge_for_C_reads.Post merge_for_C_reads.Learnt merge_for_C_reads.Asked
  pub vimrothi_withdraw : Answering withdraw_for_C.ended withdraw_for_C_reads.Post withdraw_for_C_reads.Learnt withdraw_for_C_reads.Asked
  pub vimrothi_list : Answering list_for_C.ended list_for_C_reads.Post list_for_C_reads.Learnt list_for_C_reads.Asked
  pub vimrothi_filter : Answering filter_for_C.ended filter_for_C_reads.Post filter_for_C_reads.Learnt filter_for_C_reads.Asked
  pub vimrothi_load : Answering load_for_C.ended load_for_C_reads.Post load_for_C_reads.Learnt load_for_C_reads.Asked
  pub vimrothi_report : Answering report_for_C.ended report_for_C_reads.Post report_for_C_reads.Learnt report_for_C_reads.Asked
  pub reader_at : Answering reader_at_call.ended reader_at_call_reads.Post reader_at_call_reads.Learnt reader_at_call_reads.Asked
  pub next : Answering next_call.ended next_call_reads.Post next_call_reads.Learnt next_call_reads.Asked
  pub read_at : Answering read_at_call.ended read_at_call_reads.Post read_at_call_reads.Learnt read_at_call_reads.Asked

-- What `reader_at` and `next` allow, told here too, apart from how the checker reads it: a reader is made of a log and an offset; its answer says the item here, and it is moved on.
abbrev pub ReaderAtAllows : Bor (List ℕ) → ℕ → Reader → Type 0
ReaderAtAllows log at r = (r.log ≡ log) × (r.at ≡ at)

abbrev pub NextAllows : Reader → Result (Option Kind) Refusal × Reader → Type 0
NextAllows reader o = (item_said o.0 ≡ here reader) × (o.1 ≡ moved_on reader)

-- Statement: what `reader_at` allows is one outcome, and so is what `next` allows.
pub record ReaderOne : Type 0 where
  pub reader_at_one : (log : Bor (List ℕ)) (at : ℕ) → One (ReaderAtAllows log at)
  pub next_one : (reader : Reader) → One (NextAllows reader)

-- Statement: the `ensures` of `reader_at` and of `next` is the fact told above and the `requires` is nothing, in every model of the logic in which the code is proved.
pub record ReaderSays : Type 3 where
  pub reader_at_says : (w : World) (κs : Lfts 1) (a : Args reader_at_call.signature κs) (r : Res reader_at_call.signature κs) (e : AtExit reader_at_call.ended κs)
      → (reader_at_call.clauses w.𝓛 w.𝓜.mem w.𝓡.returns κs a).ensures tt r e ≡ fact w.𝓤 (ReaderAtAllows a.0 a.1.0 r)
  pub next_says : (w : World) (κs : Lfts 2) (a : Args next_call.signature κs) (r : Res next_call.signature κs) (e : AtExit next_call.ended κs)
      → (next_call.clauses w.𝓛 w.𝓜.mem w.𝓡.returns κs a).ensures tt r e ≡ fact w.𝓤 (NextAllows a.0.now (r, e.0.now))
  pub reader_at_asks : (w : World) (κs : Lfts 1) (a : Args reader_at_call.signature κs)
      → (reader_at_call.clauses w.𝓛 w.𝓜.mem w.𝓡.returns κs a).requires tt ≡ emp w.𝓤
  pub next_asks : (w : World) (κs : Lfts 2) (a : Args next_call.signature κs)
      → (next_call.clauses w.𝓛 w.𝓜.mem w.𝓡.returns κs a).requires tt ≡ emp w.𝓤

-- Statement: "A call refused as a whole hands back the head it was given and changes no lent memory. A refused fresh call hands back d, S and C as given,
-- with n and m 0." Here of the counts n and m and of memory; that d, S, C and B come back as given is in the contracts, by `AnswersBook`. Of load it is `LoadRefuses`.
pub record RefusedLeavesAll : Type 0 where
  pub fresh_refused : (c : Settings) (b : Booked) (x : ℕ) → fresh_refusal c b ≡ suc x → after_fresh c b ≡ lent_book b
  pub enter_refused : (c : Settings) (b : Booked) (l : List ℤ) (x : ℕ) → enter_refusal c b l ≡ suc x → enter c b l ≡ record { taken = 0; number = suc x; booked = b }
  pub merge_refused : (c : Settings) (b : Booked) (e : Settings) (s : Booked) (x : ℕ) → merge_refusal c b e s ≡ suc x → after_merge c b e s ≡ b
  pub withdraw_refused : (c : Settings) (b : Booked) (k : ℤ) (x : ℕ) → withdraw_refusal c b k ≡ suc x → after_withdraw c b k ≡ b
  pub list_refused : (c : Settings) (b : Booked) (list : List ℕ) (x : ℕ) → list_refusal c b list ≡ suc x → after_list c b list ≡ list
  pub filter_refused : (c : Settings) (b : Booked) (queries : List ℤ) (l : Lent) (x : ℕ) → filter_refusal c b queries l ≡ suc x → after_filter c b queries l ≡ l

-- What stays where the table t of settings c becomes u: keys and sums past the last point of u, the keys of the points of t, and the index places that named one of these.
pub record LeftAlone (c : Settings) (t u : Table) : Type 0 where
  pub points : t.m ≤ u.m
  pub keys_past : (i : ℕ) → c.d * u.m ≤ i → at u.keys i ≡ at t.keys i
  pub keys_there : (i : ℕ) → i < c.d * t.m → at u.keys i ≡ at t.keys i
  pub sums_past : (i : ℕ) → 2 * u.m ≤ i → at u.sums i ≡ at t.sums i
  pub named : (p : ℕ) → 0 < entry t p → entry u p ≡ entry t p

-- And in the book: the entries that were there, and what stands past the last one.
pub record BookLeftAlone (c : Settings) (b u : Booked) : Type 0 where
  pub table : LeftAlone c b.table u.table
  pub readings : b.table.n ≤ u.table.n
  pub book_there : (i : ℕ) → i < (c.d + 3) * b.table.n → at u.book i ≡ at b.book i
  pub book_past : (i : ℕ) → (c.d + 3) * u.table.n ≤ i → at u.book i ≡ at b.book i

-- Statement: an accepted enter and an accepted merge leave alone what `BookLeftAlone` says.
pub record AcceptedLeavesAlone : Type 0 where
  pub enter_accepted : (c : Settings) (b : Booked) (l : List ℤ) → enter_refusal c b l ≡ 0 → BookLeftAlone c b (enter c b l).booked
  pub merge_accepted : (c : Settings) (b : Booked) (e : Settings) (s : Booked) → merge_refusal c b e s ≡ 0 → BookLeftAlone c b (after_merge c b e s)
