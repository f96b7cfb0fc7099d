use Rattle.std.proofs.Common.{rules, ◌≡◌, ◌+◌, ◌*◌, ◌<◌, ◌≤◌, length, take, drop, ap, ◌∙◌, arith}
use Rattle.std.proofs.lemmas.List.{length_push}
use Rattle.index.specs.Keys.{key_at}
use Rattle.table.specs.Heads.{settings}
use Rattle.table.specs.Pour.{one_if_new}
use Rattle.whole.proofs.Pieces.{Pieces, pieces_none, piece_met, pieces_met}
use Rattle.merge.proofs.Rows.{piece_key, piece_size, count_none, count_more, count_all, one_most}
use Rattle.merge.proofs.source.new_rows.Goals as goal
use Rattle.merge.proofs.source.new_rows.Goals.{In-Some, After-is_new-count}

pub loop-key-init : goal.loop-key-init
loop-key-init c = (search rules, tt, pieces_none _ _ _ c.requires.stretches.d_least c.requires.stretches.inside (search rules) (search rules), count_none _ _ _ _ _, search rules)

-- the piece that is met is the key of row j
met : (c : In-Some) → let a = c.args in let d = a.head.d in let j = length c.loop-key.yielded in
    (j < a.source_points) × (c.in-Some.key.now ≡ take d (drop (d * j) a.source_keys.now)) × Pieces d a.source_points a.source_keys.now (j + 1) c.next.new.self
met c = piece_met c.loop-key.invariant.2 c.in-Some.key c.in-Some.is c.next.ensures.steps

pub is_new-count-requires : goal.is_new-count-requires
is_new-count-requires c =
    let m = met (goal.at.is_new-count-requires c).In-Some in
    record { searchable = c.requires.searchable; key_len = piece_size _ _ _ _ m.0 c.requires.stretches.inside m.1 }

-- what is counted for it
counted : (c : After-is_new-count) → let a = c.args in c.is_new-count.result ≡ one_if_new (settings a.head) a.keys.now a.index.now (key_at a.head.d a.source_keys.now (length c.loop-key.yielded))
counted c =
    let m = met (goal.at.After-is_new-count c).In-Some in
    c.is_new-count.ensures ∙ ap (one_if_new (settings c.args.head) c.args.keys.now c.args.index.now) (piece_key _ _ _ _ m.0 c.requires.stretches.inside m.1)

pub overflow_add-count : goal.overflow_add-count
overflow_add-count c =
    let s = goal.at.overflow_add-count c in
    let k : c.is_new-count.result ≤ 1 = one_most (settings c.args.head) c.args.keys.now c.args.index.now _ _ (counted s.After-is_new-count) in
    record { fits = omega (arith, c.loop-key.invariant.4, (met s.In-Some).0, c.requires.stretches.few, k) }

pub loop-key-preserved : goal.loop-key-preserved
loop-key-preserved c =
    let s = goal.at.loop-key-preserved c in
    let k : c.is_new-count.result ≤ 1 = one_most (settings c.args.head) c.args.keys.now c.args.index.now _ _ (counted s.After-is_new-count) in
    rw (length_push c.loop-key.yielded c.in-Some.key)
    (search rules, tt, (met s.In-Some).2, count_more _ _ _ _ _ _ _ _ c.loop-key.invariant.3 (counted s.After-is_new-count), omega (arith, c.loop-key.invariant.4, k))

pub returns : goal.returns
returns c =
    let e = pieces_met c.loop-key.invariant.2 _ c.in-None.is c.next.ensures.steps in
    count_all _ _ _ _ _ _ _ _ e c.loop-key.invariant.3
