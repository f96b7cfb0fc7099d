use Rattle.std.proofs.Common.{rules, ◌≡◌, ◌+◌, ◌*◌, ◌<◌, ℤ, length, take, drop, refl, arith}
use Rattle.std.proofs.lemmas.List.{length_push}
use Rattle.std.specs.Iterator.Adapters.{zip_first, zip_second}
use mir.Syntax.{w64}
use mir.Val.{SFits}
use mir.Facts.{to_z-of_z}
use Rattle.whole.specs.Lists.{at}
use Rattle.index.specs.Keys.{key_at}
use Rattle.whole.proofs.Pieces.{Pieces, pieces_none, piece_met, pairs_met}
use Rattle.merge.proofs.Rows.{piece_key, pair_number, row_lent, row_added, poured_none, row_addable, row_turn, ended}
use Rattle.merge.proofs.source.pour_rows.Goals as goal
use Rattle.merge.proofs.source.pour_rows.Goals.{In-Some}

pub loop-key-init : goal.loop-key-init
loop-key-init c = (search rules, tt, pieces_none _ _ _ c.requires.stretches.d_least c.requires.stretches.inside (search rules) (search rules), pieces_none _ _ _ (omega arith) c.requires.pairs (search rules) (search rules), poured_none _ _ _ _ _)

-- the pieces that are met are the key and the pair of row j
key_met : (c : In-Some) → let a = c.args in let d = a.head.d in let j = length c.loop-key.yielded in
    (j < a.source_points) × (c.in-Some.key.now ≡ take d (drop (d * j) a.source_keys.now)) × Pieces d a.source_points a.source_keys.now (j + 1) (zip_first c.next.new.self)
key_met c = piece_met c.loop-key.invariant.2 c.in-Some.key refl (rw c.in-Some.is at c.next.ensures.steps).0

pair_met : (c : In-Some) → let a = c.args in let j = length c.loop-key.yielded in
    (j < a.source_points) × (c.in-Some.pair.now ≡ take 2 (drop (2 * j) a.source_sums.now)) × Pieces 2 a.source_points a.source_sums.now (j + 1) (zip_second c.next.new.self)
pair_met c = piece_met c.loop-key.invariant.3 c.in-Some.pair refl (rw c.in-Some.is at c.next.ensures.steps).1

key_is : (c : In-Some) → c.in-Some.key.now ≡ key_at c.args.head.d c.args.source_keys.now (length c.loop-key.yielded)
key_is c = piece_key _ _ _ _ (key_met c).0 c.requires.stretches.inside (key_met c).1

mass_is : (c : In-Some) → {x : ℤ} → x ≡ at c.in-Some.pair.now 0 → x ≡ at c.args.source_sums.now (2 * length c.loop-key.yielded + 0)
mass_is c e = pair_number c.args.source_sums.now (length c.loop-key.yielded) 0 (omega arith) (pair_met c).1 e

value_is : (c : In-Some) → {x : ℤ} → x ≡ at c.in-Some.pair.now 1 → x ≡ at c.args.source_sums.now (2 * length c.loop-key.yielded + 1)
value_is c e = pair_number c.args.source_sums.now (length c.loop-key.yielded) 1 (omega arith) (pair_met c).1 e

pub add_row-points-requires : goal.add_row-points-requires
add_row-points-requires c =
    let s = (goal.at.add_row-points-requires c).In-Some in
    let f : SFits w64 (at c.in-Some.pair.now 0) = search rules in
    let g : SFits w64 (at c.in-Some.pair.now 1) = search rules in
    row_lent _ _ _ c.args.source_sums.now (length c.loop-key.yielded) (key_is s) (mass_is s (to_z-of_z f)) (value_is s (to_z-of_z g)) (row_addable _ _ _ _ _ _ _ _ (key_met s).0 c.requires.in_turn c.loop-key.invariant.4)

pub loop-key-preserved : goal.loop-key-preserved
loop-key-preserved c =
    let s = (goal.at.loop-key-preserved c).In-Some in
    let j = length c.loop-key.yielded in
    let f : SFits w64 (at c.in-Some.pair.now 0) = search rules in
    let g : SFits w64 (at c.in-Some.pair.now 1) = search rules in
    rw (length_push c.loop-key.yielded (c.in-Some.key, c.in-Some.pair))
    (search rules, tt, (key_met s).2, (pair_met s).2, row_turn c.args.head _ _ _ _ j _ _ _ _ _ _ _ _ c.loop-key.invariant.4 (row_added _ _ _ c.args.source_sums.now j (key_is s) (mass_is s (to_z-of_z f)) (value_is s (to_z-of_z g)) c.add_row-points.ensures))

pub returns : goal.returns
returns c =
    let e = pairs_met c.next.new.self c.loop-key.invariant.2 c.loop-key.invariant.3 c.in-None.is c.next.ensures.steps in
    ended c.args.head _ _ _ _ _ _ e _ _ _ _ c.loop-key.invariant.4
