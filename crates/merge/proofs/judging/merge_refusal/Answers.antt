-- The refusals of each table decide first, then those of the two together.
use Rattle.std.proofs.Common.{rules, ◌≡◌, Err, refl, sym, ap, ◌∙◌}
use Rattle.lattice.specs.Refusals.{told}
use Rattle.lattice.proofs.Refusing.{number_not_0}
use Rattle.merge.proofs.Refusing.{refused_each, refused_both, both_fine}
use Rattle.merge.proofs.Merging.{comparable}
use Rattle.merge.proofs.judging.merge_refusal.Goals as goal

pub returns-in_err-each_refusal : goal.returns-in_err-each_refusal
returns-in_err-each_refusal c =
    let why = c.in_err-each_refusal.field-0.0 in
    let e : c.from_residual.result ≡ Err why = search rules in
    ap told e ∙ refused_each _ _ _ _ _ c.in_err-each_refusal.ensures (number_not_0 why)

pub both_refusal-requires : goal.both_refusal-requires
both_refusal-requires c = comparable _ _ _ _ _ _ _ _ _ _ (both_fine _ _ _ _ (sym c.in_ok-each_refusal.ensures))

pub returns : goal.returns
returns c = refused_both _ _ _ _ _ _ c.in_ok-each_refusal.ensures refl c.both_refusal.ensures
