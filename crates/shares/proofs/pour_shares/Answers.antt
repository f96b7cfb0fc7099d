use borrow.Author.Rules.{rules}
use native.Mathlib.Omega.{arith}
use mathlib.Core.Path.{refl, sym, subst, ◌∙◌}
use Prim.Native.Nat.{suc}
use mir.Syntax.{w32}
use lib.IntN.{ℤ}
use mir.Val.{to_z, of_z}
use mir.Facts.{to_z-of_z}
use Rattle.table.specs.Heads.{settings, table}
use Rattle.shares.specs.Slots.{rows_to, SharesToPour}
use Rattle.table.proofs.Turns.{pour_turn}
use Rattle.shares.proofs.Slots.{pour_none, rows_none, rows_more, slot_pourable}
use Rattle.shares.proofs.pour_shares.Goals as goal
use Rattle.shares.proofs.pour_shares.Goals.{Start}

-- what is asked, at the value as the machine has it
ready : (s : Start) → let v = to_z w32 (of_z w32 s.args.value) in
    SharesToPour (settings s.args.head) (table s.args.head s.args.keys.now s.args.sums.now s.args.index.now) s.args.simplex.now.weights s.args.simplex.now.coords v
    (rows_to s.args.head.d s.args.simplex.now.weights s.args.simplex.now.coords v (suc s.args.head.d))
ready s =
    let a = s.args in
    subst
    (λ (v : ℤ). SharesToPour (settings a.head) (table a.head a.keys.now a.sums.now a.index.now) a.simplex.now.weights a.simplex.now.coords v (rows_to a.head.d a.simplex.now.weights a.simplex.now.coords v (suc a.head.d)))
    (sym (to_z-of_z s.ranges.value)) s.requires

pub loop-slot-init : goal.loop-slot-init
loop-slot-init c = (search rules, refl, refl, refl, refl, sym (pour_none _ _ _ (rows_none _ _ _ _)))

pub pour_slot-points-requires : goal.pour_slot-points-requires
pour_slot-points-requires c = let l = c.loop-slot in
    let q = ready (goal.at.pour_slot-points-requires c).Start in
    let i = l.invariant in
    record { fact = record { ranged = q.ranged; arrays = q.arrays; fair = q.fair; turns = slot_pourable _ _ _ _ _ _ _ _ _ (omega (arith, i.0, i.1, c.loop-slot-test.true)) q.turns i.5 }; slot_bound = omega (arith, i.0, i.1, c.loop-slot-test.true) }

pub loop-slot-preserved : goal.loop-slot-preserved
loop-slot-preserved c = let o = c.pour_slot-points in
    let l = c.loop-slot in
    (search rules, refl, o.auto.keys ∙ l.invariant.2, o.auto.sums ∙ l.invariant.3, o.auto.index ∙ l.invariant.4, pour_turn _ c.args.head _ _ _ _ _ _ _ _ _ _ _ _ l.invariant.5 o.ensures (rows_more _ _ _ _ l.slot))
