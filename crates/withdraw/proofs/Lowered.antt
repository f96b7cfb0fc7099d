-- A reading on a sheet that was 0, subtracted: what each step asks, and that the sums are lowered then.
use mathlib.Core.Path.{◌≡◌, refl, ap, subst, ◌∙◌}
use mathlib.Core.List.{List}
use Prim.Native.Nat.{ℕ, ◌+◌, ◌*◌, ◌/◌, ◌%◌, ◌≤◌, ◌<◌}
use native.Mathlib.Decide.{dec_lt}
use native.Mathlib.Omega.{arith}
use lib.IntN.{ℤ, pos, ◌-ℤ◌}
use lib.ListN.{length, take, replicate, length-replicate}
use lib.Seq.{length-take-le, get_or-take}
use Rattle.whole.specs.Size.{Abs≤}
use Rattle.whole.specs.Lists.{at}
use Rattle.whole.proofs.Lists.{zeros}
use Rattle.lattice.specs.Limits.{most_C}
use Rattle.table.specs.Table.{Settings, Table, Row}
use Rattle.table.specs.Reading.{reading_of, shares}
use Rattle.table.proofs.Theorems.{sums_small}
use Rattle.pour.specs.Inner.{most_share, most_rows}
use Rattle.book.specs.Withdraw.{lowered}
use Rattle.book.proofs.Testing.{news_none}
use Rattle.spread.specs.Spreading.{Lifts, SheetAfter, ToSpread}
use Rattle.spread.proofs.Few.{shares_few}
use Rattle.spread.proofs.Light.{shares_light}
use Rattle.spread.proofs.Sheets.{lift_length, after_all, sheet_clear}
use Rattle.withdraw.specs.Inner.{BoundedTo, TakenOff, Lowerable}
use Rattle.withdraw.proofs.Opposite.{is_lowered}

module _ (c : Settings) (t : Table) (l : List ℤ) (Q : Lowerable c t l) where
  abbrev rs : List Row
  rs = shares c.d c.S (reading_of c.d l)

  -- the sheet, which has room for as many points as a table has at most
  abbrev clear : List ℤ
  clear = replicate (2 * most_C) (pos 0)

  clear_ready : SheetAfter 0 c.d c.C t.keys t.index clear
  clear_ready =
      let Z = sheet_clear c t Q.fine refl in
      record {
        searchable = Z.searchable;
        paired = λ p. omega (arith, Z.paired p, length-replicate (2 * c.C) (pos 0), length-replicate (2 * most_C) (pos 0), Q.fine.ranged.C_most);
        small = λ p. rw (zeros (2 * most_C) p) (record { abs = omega arith });
      }

  pub can_spread : ToSpread c t.keys t.index clear l
  can_spread = record { ranged = Q.fine.ranged; rows = 0; few = omega arith; ready = clear_ready; size = Q.size; lawful = Q.lawful }

  -- the table's own sums
  sums_long : 2 * t.m ≤ length t.sums
  sums_long = omega (arith, Q.fine.shape.sums, Q.fine.sound.indexed.sparse.room)

  sums_bounded : BoundedTo (2 * t.m) t.sums
  sums_bounded p h = go (dec_lt 0 (p % 2))
    where
      go : Dec (0 < p % 2) → Abs≤ (at t.sums p) (most_share * most_rows)
      go (yes o) =
          let q : 2 * (p / 2) + 1 ≡ p = omega arith in
          let X = (sums_small c t Q.fine (p / 2) (omega arith)).value_small in
          subst (λ (p : ℕ). Abs≤ (at t.sums p) (most_share * most_rows)) q (record { abs = omega (arith, X.abs) })
      go (no o) =
          let q : 2 * (p / 2) ≡ p = omega arith in
          let X = (sums_small c t Q.fine (p / 2) (omega arith)).mass_small in
          subst (λ (p : ℕ). Abs≤ (at t.sums p) (most_share * most_rows)) q (record { abs = omega (arith, X.abs) })

  module _ {x : ℕ} {sheet : List ℤ} (L : Lifts c t.keys t.index clear rs x sheet) where
    sheet_long : 2 * t.m ≤ length sheet
    sheet_long = omega (arith, ap length L.left_is ∙ lift_length c t.keys t.index rs clear, length-replicate (2 * most_C) (pos 0), Q.fine.sound.indexed.sparse.room, Q.fine.ranged.C_most)

    sheet_bounded : BoundedTo (2 * t.m) sheet
    sheet_bounded p h =
        let few = shares_few c.d c.S (reading_of c.d l) in
        let S = (after_all c t.keys t.index rs 0 clear clear_ready (shares_light c (reading_of c.d l) Q.fine.ranged Q.lawful.fair)).small p in
        rw L.left_is (record { abs = omega (arith, S.abs, few, Q.fine.ranged.d_most) })

    -- as many numbers of it as the points have
    abbrev lent : List ℤ
    lent = take (2 * t.m) sheet

    lent_size : length lent ≡ 2 * t.m
    lent_size = length-take-le (2 * t.m) sheet sheet_long

    pub can_take_off : (length lent ≤ length t.sums) × BoundedTo (length lent) t.sums × BoundedTo (length lent) lent
    can_take_off = rw lent_size (sums_long, sums_bounded, λ p h. rw (get_or-take (2 * t.m) sheet p (pos 0) h) (sheet_bounded p h))

    pub now_lowered : {left : List ℤ} → TakenOff (length lent) t.sums lent left → left ≡ (lowered c t rs).sums
    now_lowered O = is_lowered c t Q.fine.ranged.C_least Q.fine.sound.indexed.sparse rs (2 * most_C) (omega (arith, Q.fine.sound.indexed.sparse.room, Q.fine.ranged.C_most)) sums_long
        (news_none c t rs Q.stored) L.left_is (record {
          size = O.size;
          low = λ p h. O.low p (omega (arith, h, lent_size)) ∙ ap (λ (z : ℤ). at t.sums p -ℤ z) (get_or-take (2 * t.m) sheet p (pos 0) h);
          high = λ p h. O.high p (omega (arith, h, lent_size));
        })
