use Rattle.std.proofs.Common.{◌≡◌, ◌∙◌, ◌∷◌, [], ◌++◌, length, map, None, get_or, refl, ap, ap₂, sym, subst, subst₂, arith}
use Rattle.std.proofs.lemmas.Result.{err_from_is_err_and}
use Rattle.base_numbers.specs.Rational.{◌-ℚ◌}
use Rattle.base_fractions.specs.Fits.{long_limit}
use Rattle.base_fractions.specs.Operation.{first_wide}
use Rattle.theory_validity.specs.Certificates.{num}
use Rattle.solve_composition.specs.Composed.{edge_forms}
use Rattle.solve_joint.specs.Rows.{AllStand, SameForm, side_operation, IsSideFault}
use Rattle.solve_joint.specs.Blocks.{edge_at, end_at, own_of, side_of}
use Rattle.solve_joint.proofs.problem.PathForms.{path_at, end_form_at}
use Rattle.solve_joint.proofs.problem.push_own.Goals as goal

pub returns-in_err-side-clause-refused : goal.returns-in_err-side-clause-refused
returns-in_err-side-clause-refused c =
    let q = err_from_is_err_and c.from_residual.result c.from_residual.ensures.1 in
    let system = c.args.at.now.system.now in
    let edge = c.args.edge in
    let p = path_at system c.args.at.now.paths.now edge c.args.at.now.composed c.requires.edge in
    let ef = edge_forms (length system.flow.names) system.template (edge_at system edge).actions in
    let f = end_form_at system edge c.own_row-row.result c.row-end.result.now c.own_row-row.ensures.within (c.row-end.ensures ef p) in
    let bound = c.finite.ensures ∙ ap num c.at.ensures in
    rw (q.1, q.2) (subst (λ r. IsSideFault (side_of system c.args.at.now.base.now edge r c.args.unknown ∷ []) c.in_err-side.field-0.0)
    c.own_row-row.ensures.value
    (subst₂ (λ x y. IsSideFault (side_operation x y ∷ []) c.in_err-side.field-0.0) f.0.same_constant bound c.in_err-side.ensures))

pub push_own_row-requires : goal.push_own_row-requires
push_own_row-requires c =
    let system = c.args.at.now.system.now in
    let edge = c.args.edge in
    let p = path_at system c.args.at.now.paths.now edge c.args.at.now.composed c.requires.edge in
    let ef = edge_forms (length system.flow.names) system.template (edge_at system edge).actions in
    let f = end_form_at system edge c.own_row-row.result c.row-end.result.now c.own_row-row.ensures.within (c.row-end.ensures ef p) in
    let size = f.1 in
    omega (arith, ap (λ xs. length xs) c.as_slice.ensures, size, c.requires.fits)

pub returns-clause-stands : goal.returns-clause-stands
returns-clause-stands c =
    let system = c.args.at.now.system.now in
    let edge = c.args.edge in
    let form = end_at system edge c.own_row-row.result in
    let p = path_at system c.args.at.now.paths.now edge c.args.at.now.composed c.requires.edge in
    let ef = edge_forms (length system.flow.names) system.template (edge_at system edge).actions in
    let f = end_form_at system edge c.own_row-row.result c.row-end.result.now c.own_row-row.ensures.within (c.row-end.ensures ef p) in
    let bound = c.finite.ensures ∙ ap num c.at.ensures in
    let side = c.in_ok-side.ensures.0 ∙ ap₂ (λ x y. x -ℚ y) f.0.same_constant bound in
    let same : SameForm c.as_slice.result.now form.constant form = record {
      entries =
          λ k. ap (λ xs. get_or xs k Rattle.base_numbers.specs.Rational.zero_ℚ) c.as_slice.ensures ∙ f.0.entries k;
      same_constant =
          refl;
    } in
    let rows = c.push_own_row.new.rows.items in
    let span = c.args.span.now in
    λ ls h. subst (λ r. AllStand span.cols (map (λ r. r.coeffs) rows) (map (λ r. r.side) rows)
    (ls ++ own_of system c.args.at.now.base.now span.list.now span.offset edge r c.args.unknown ∷ [])) c.own_row-row.ensures.value
    (rw (sym side) (c.in_ok-push_own_row.ensures form ls same h))

pub returns-clause-side : goal.returns-clause-side
returns-clause-side c =
    let system = c.args.at.now.system.now in
    let edge = c.args.edge in
    let p = path_at system c.args.at.now.paths.now edge c.args.at.now.composed c.requires.edge in
    let ef = edge_forms (length system.flow.names) system.template (edge_at system edge).actions in
    let f = end_form_at system edge c.own_row-row.result c.row-end.result.now c.own_row-row.ensures.within (c.row-end.ensures ef p) in
    let bound = c.finite.ensures ∙ ap num c.at.ensures in
    subst (λ r. first_wide long_limit (side_of system c.args.at.now.base.now edge r c.args.unknown ∷ []) ≡ None) c.own_row-row.ensures.value
    (subst₂ (λ x y. first_wide long_limit (side_operation x y ∷ []) ≡ None) f.0.same_constant bound c.in_ok-side.ensures.1)
