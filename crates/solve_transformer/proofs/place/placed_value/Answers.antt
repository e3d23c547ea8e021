use Rattle.std.proofs.Common.{◌<◌, length, ap, refl, sym, subst, subst₂}
use Rattle.base_numbers.specs.Extended.{neg_inf, ◌<ᴱ◌}
use Rattle.flow_systems.specs.View.{equations_of, vector_at}
use Rattle.solve_transformer.specs.Places.{placed_edge}
use Rattle.solve_transformer.specs.Values.{IsLowestLost}
use Rattle.solve_transformer.proofs.place.Answered.{placed_lost}
use Rattle.solve_transformer.proofs.transform.Operated.{source_taken, none_at}
use Rattle.solve_transformer.proofs.place.placed_value.Goals as goal

pub returns-in-Some : goal.returns-in-Some
returns-in-Some c =
    let s = c.args.system.now in
    let z = vector_at s c.args.bounds.now in
    let p = c.args.point in
    let rows = ap length c.as_slice-rows.ensures.rows in
    let source = source_taken c.as_slice.result.now c.args.bounds.now (length s.template) (length c.as_slice-rows.result.now) p p
    c.as_slice.ensures rows refl in
    let all = placed_lost (equations_of s) z (placed_edge p c.args.before.now c.args.guards.now) c.in-Some.lost
    (subst₂ (λ B m. IsLowestLost B m c.in-Some.lost) source rows c.in-Some.ensures) in
    record { value = all.value; evidence = all.evidence; state = all.state; fits = all.fits; refused = all.refused }

pub returns-in-None : goal.returns-in-None
returns-in-None c =
    let s = c.args.system.now in
    let z = vector_at s c.args.bounds.now in
    let p = c.args.point in
    let rows = ap length c.as_slice-rows.ensures.rows in
    let source = source_taken c.as_slice.result.now c.args.bounds.now (length s.template) (length c.as_slice-rows.result.now) p p
    c.as_slice.ensures rows refl in
    let reached = none_at (z p) s.template (λ k l. subst (λ B. neg_inf <ᴱ B k) source
    (c.in-None.ensures k (subst (λ m. k < m) (sym rows) l))) in
    let all = c.solve_placed.ensures z p source reached in
    record { value = all.value; evidence = all.evidence; state = all.state; fits = all.fits; refused = all.refused }
