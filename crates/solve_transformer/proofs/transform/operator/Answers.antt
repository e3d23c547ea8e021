use Rattle.std.proofs.Common.{◌<◌, length, ap, sym, subst, subst₂}
use Rattle.base_numbers.specs.Extended.{neg_inf, ◌<ᴱ◌}
use Rattle.flow_systems.specs.View.{equations_of, vector_at, edge_at, row_at}
use Rattle.solve_transformer.specs.Values.{IsLowestLost}
use Rattle.solve_transformer.proofs.transform.Answered.{answered_lost}
use Rattle.solve_transformer.proofs.transform.Operated.{source_at, none_at}
use Rattle.solve_transformer.proofs.transform.operator.Goals as goal

pub returns-in-Some : goal.returns-in-Some
returns-in-Some c =
    let s = c.args.system.now in
    let z = vector_at s c.args.bounds.now in
    let rows = ap length c.as_slice-rows.ensures.rows in
    let source = source_at s c.args.edge c.requires.edge c.as_slice.result.now c.as_slice.ensures c.index-as_slice-edge.result
    c.as_slice-2.result.now c.args.bounds.now c.as_slice-2.ensures (length c.as_slice-rows.result.now) rows in
    let all = answered_lost (equations_of s) z (edge_at s c.args.edge) (row_at s c.args.row) c.in-Some.lost
    (subst₂ (λ B m. IsLowestLost B m c.in-Some.lost) source rows c.in-Some.ensures) in
    record { value = all.value; supremum = all.supremum; evidence = all.evidence; fits = all.fits; refused = all.refused }

pub returns-in-None : goal.returns-in-None
returns-in-None c =
    let s = c.args.system.now in
    let z = vector_at s c.args.bounds.now in
    let rows = ap length c.as_slice-rows.ensures.rows in
    let source = source_at s c.args.edge c.requires.edge c.as_slice.result.now c.as_slice.ensures c.index-as_slice-edge.result
    c.as_slice-2.result.now c.args.bounds.now c.as_slice-2.ensures (length c.as_slice-rows.result.now) rows in
    let reached = none_at (z (edge_at s c.args.edge).from) s.template (λ k l. subst (λ B. neg_inf <ᴱ B k) source
    (c.in-None.ensures k (subst (λ m. k < m) (sym rows) l))) in
    let all = c.solve_edge.ensures z source reached in
    record { value = all.value; supremum = all.supremum; evidence = all.evidence; fits = all.fits; refused = all.refused }
