use Rattle.std.proofs.Common.{◌≡◌, ◌∙◌, get_or, sym, ap, subst}
use Rattle.std.specs.Prelude.{Some, None}
use Rattle.std.proofs.lemmas.Result.{err_from_is_err_and}
use Rattle.std.proofs.lemmas.Option.{get_or_from_slice_get}
use Rattle.base_numbers.specs.Rational.{zero_ℚ}
use Rattle.base_fractions.specs.Fits.{long_limit}
use Rattle.base_fractions.specs.Operation.{first_wide, operation_of}
use Rattle.flow_edges.specs.declared.edge.Edge.{Edge}
use Rattle.flow_systems.specs.View.{equations_of}
use Rattle.cert_checker.proofs.combination.Forms.{no_edge, edge_there, guard_count}
use Rattle.cert_checker.specs.EvidenceEvents.{total, products, row_numbers}
use Rattle.cert_checker.proofs.law.Combinations.{side_refused, side_answers}
use Rattle.cert_checker.proofs.combination.side_sum.Goals as goal

pub returns-in_err-sum : goal.returns-in_err-sum
returns-in_err-sum c = λ z e h f.
    let p = err_from_is_err_and c.from_residual.result c.from_residual.ensures.1 in
    let S = equations_of c.args.system.now in
    let found = c.index-as_slice-edge.result in
    let here = get_or c.as_slice.result.now c.args.edge found in
    let q : here ≡ e = ap (λ es. get_or es c.args.edge found) c.as_slice.ensures
    ∙ get_or_from_slice_get c.args.system.now.flow.edges c.args.edge e found f in
    let o = operation_of (λ q. q) c.in_err-sum.field-0.0 in
    let w : first_wide long_limit (products zero_ℚ c.args.rows.now (row_numbers S z e)) ≡ Some o =
    subst (λ (x : Edge). first_wide long_limit (products zero_ℚ c.args.rows.now (row_numbers S z x)) ≡ Some o) q
    (c.in_err-sum.ensures z h) in
    rw (p.1, p.2) (side_refused S e c.args.rows.now c.args.guards.now z o w)

pub guard_side-requires-clause-guards : goal.guard_side-requires-clause-guards
guard_side-requires-clause-guards c = λ forms at.
    let S = equations_of c.args.system.now in
    let e = get_or c.args.system.now.flow.edges c.args.edge no_edge in
    let f = edge_there c.args.system.now.flow.edges c.args.edge c.requires.edge in
    c.requires.guards e f ∙ sym (guard_count S c.args.paths.now c.requires.paths c.args.edge e f forms at)

pub returns : goal.returns
returns c = λ z e h f.
    let S = equations_of c.args.system.now in
    let found = c.index-as_slice-edge.result in
    let here = get_or c.as_slice.result.now c.args.edge found in
    let q : here ≡ e = ap (λ es. get_or es c.args.edge found) c.as_slice.ensures
    ∙ get_or_from_slice_get c.args.system.now.flow.edges c.args.edge e found f in
    let sum = c.in_ok-sum.sum in
    let a = c.in_ok-sum.ensures z h in
    let is : sum ≡ total zero_ℚ c.args.rows.now (row_numbers S z e) = subst
    (λ (x : Edge). sum ≡ total zero_ℚ c.args.rows.now (row_numbers S z x)) q a.0 in
    let none : first_wide long_limit (products zero_ℚ c.args.rows.now (row_numbers S z e)) ≡ None =
    subst (λ (x : Edge). first_wide long_limit (products zero_ℚ c.args.rows.now (row_numbers S z x)) ≡ None) q a.1 in
    side_answers S e c.args.rows.now c.args.guards.now c.args.paths.now c.requires.paths c.args.edge f c.requires.rows z sum is none
    c.guard_side.result c.guard_side.ensures
