use borrow.Author.Rules.{rules}
use native.Mathlib.Omega.{arith}
use mathlib.Core.Path.{refl, ◌∙◌}
use Prim.Native.Nat.{suc, ◌+◌, ◌<◌}
use lib.IntN.{ℤ}
use mir.Syntax.{w32}
use mir.Val.{to_z, of_z}
use mir.Facts.{to_z-of_z}
use Rattle.table.specs.Heads.{settings}
use Rattle.shares.specs.Slots.{rows_to}
use Rattle.shares.proofs.Slots.{rows_none}
use Rattle.spread.specs.Spreading.{Lifts}
use Rattle.spread.specs.Inner.{SlotsToLift}
use Rattle.spread.proofs.Sheets.{lifts_none}
use Rattle.spread.proofs.Slots.{slot_ready, slots_missing, slots_more}
use Rattle.spread.proofs.lifting.lift_shares.Goals as goal
use Rattle.spread.proofs.lifting.lift_shares.Goals.{After-lift_slot-missing, Start}

-- the value as the machine has it
abbrev val : ℤ → ℤ
val v = to_z w32 (of_z w32 v)

ready : (s : Start) → let a = s.args in SlotsToLift a.head.d a.head.capacity a.keys.now a.index.now a.sheet.now a.simplex.now.weights a.simplex.now.coords (val a.value) (suc a.head.d)
ready s = rw (to_z-of_z s.ranges.value) s.requires

pub loop-slot-init : goal.loop-slot-init
loop-slot-init c = (search rules, refl, refl, lifts_none _ _ _ _ _ (rows_none _ _ _ _))

pub lift_slot-missing-requires : goal.lift_slot-missing-requires
lift_slot-missing-requires c =
    let l = c.loop-slot in
    let h : l.slot < suc c.args.head.d = omega (arith, l.invariant, c.loop-slot-test.true) in
    record { slots_to_lift = slot_ready (settings c.args.head) _ _ _ _ _ _ _ (ready (goal.at.lift_slot-missing-requires c).Start) l.slot h l.invariant.3; slot_bound = h }

-- what is left after one slot more
more : (c : After-lift_slot-missing) → let l = c.loop-slot in let a = c.args in
    Lifts (settings a.head) a.keys.now a.index.now a.sheet.now (rows_to a.head.d a.simplex.now.weights a.simplex.now.coords (val a.value) (l.slot + 1)) (l.missing + c.lift_slot-missing.result) c.lift_slot-missing.new.sheet
more c = let l = c.loop-slot in let a = c.args in
    slots_more (settings a.head) _ _ a.simplex.now.weights a.simplex.now.coords (val a.value) l.slot l.invariant.3 c.lift_slot-missing.ensures

pub overflow_add-missing : goal.overflow_add-missing
overflow_add-missing c =
    let l = c.loop-slot in
    let f = slots_missing (settings c.args.head) _ _ c.args.simplex.now.weights c.args.simplex.now.coords (val c.args.value) (l.slot + 1) (more (goal.at.overflow_add-missing c).After-lift_slot-missing) in
    record { fits = omega (arith, l.invariant, c.requires.d_most, c.loop-slot-test.true) }

pub loop-slot-preserved : goal.loop-slot-preserved
loop-slot-preserved c = (search rules, refl, c.lift_slot-missing.auto.sheet ∙ c.loop-slot.invariant.2, more (goal.at.loop-slot-preserved c).After-lift_slot-missing)
