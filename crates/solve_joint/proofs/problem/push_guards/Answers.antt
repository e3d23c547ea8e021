use Rattle.std.proofs.Common.{◌≡◌, [], ◌++◌, ◌<◌, length, take, get_or, ap, sym, subst, arith}
use Rattle.std.proofs.lemmas.List.{take_all, get_or_default}
use Rattle.base_numbers.specs.Rational.{zero_ℚ}
use Rattle.theory_transformers.specs.EdgeProblems.{guard_limits}
use Rattle.theory_validity.specs.Words.{Affine, guard_forms}
use Rattle.solve_composition.specs.Composed.{edge_forms}
use Rattle.solve_joint.specs.Rows.{SameForm, embedded}
use Rattle.solve_joint.specs.Blocks.{edge_at}
use Rattle.solve_joint.proofs.problem.PathForms.{path_at, guard_count, guard_form}
use Rattle.solve_joint.proofs.problem.Sources.{guards_none, guard_more}
use Rattle.solve_joint.proofs.problem.push_guards.Goals as goal

pub loop-g-init : goal.loop-g-init
loop-g-init c = λ ls h. rw (guards_none (embedded zero_ℚ 0 c.args.span.now.list.now c.args.span.now.offset) ls) h

pub push_guard-requires : goal.push_guard-requires
push_guard-requires c =
    let system = c.args.at.now.system.now in
    let edge = c.args.edge in
    let p = path_at system c.args.at.now.paths.now edge c.args.at.now.composed c.requires.edge in
    let ef = edge_forms (length system.flow.names) system.template (edge_at system edge).actions in
    let forms = guard_forms (length system.flow.names) (edge_at system edge).actions in
    let count = guard_count system edge c.guards-g-end.result (c.guards-g-end.ensures ef p) in
    let empty : Affine = record { coeffs = []; constant = zero_ℚ } in
    let f = guard_form system edge c.loop-g.g empty c.guard-guard.result.now (omega (arith, count, c.loop-g-test.true))
    (c.guard-guard.ensures ef p) in
    let size = f.1 in
    omega (arith, ap (λ xs. length xs) c.as_slice.ensures, size, c.requires.fits)

pub loop-g-preserved : goal.loop-g-preserved
loop-g-preserved c =
    let system = c.args.at.now.system.now in
    let edge = c.args.edge in
    let g = c.loop-g.g in
    let p = path_at system c.args.at.now.paths.now edge c.args.at.now.composed c.requires.edge in
    let ef = edge_forms (length system.flow.names) system.template (edge_at system edge).actions in
    let forms = guard_forms (length system.flow.names) (edge_at system edge).actions in
    let count = guard_count system edge c.guards-g-end.result (c.guards-g-end.ensures ef p) in
    let l : g < length forms = omega (arith, count, c.loop-g-test.true) in
    let empty : Affine = record { coeffs = []; constant = zero_ℚ } in
    let form = get_or forms g empty in
    let f = guard_form system edge g empty c.guard-guard.result.now l (c.guard-guard.ensures ef p) in
    let same = subst (λ xs. SameForm xs c.guard-guard.result.now.constant form) (sym c.as_slice.ensures) f.0 in
    let embed = embedded zero_ℚ 0 c.args.span.now.list.now c.args.span.now.offset in
    λ ls h. rw (sym (guard_more embed forms g form ls l (get_or_default forms g empty form l)))
    (c.in_ok-push_guard.ensures form (ls ++ guard_limits embed (take g forms)) same (c.loop-g.invariant ls h))

pub returns : goal.returns
returns c =
    let system = c.args.at.now.system.now in
    let edge = c.args.edge in
    let p = path_at system c.args.at.now.paths.now edge c.args.at.now.composed c.requires.edge in
    let ef = edge_forms (length system.flow.names) system.template (edge_at system edge).actions in
    let forms = guard_forms (length system.flow.names) (edge_at system edge).actions in
    let count = guard_count system edge c.guards-g-end.result (c.guards-g-end.ensures ef p) in
    let embed = embedded zero_ℚ 0 c.args.span.now.list.now c.args.span.now.offset in
    let all : take c.loop-g.g forms ≡ forms = take_all c.loop-g.g forms (omega (arith, count, c.loop-g-test.false)) in
    λ ls h. rw (sym all) (c.loop-g.invariant ls h)
