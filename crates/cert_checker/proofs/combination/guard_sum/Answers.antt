use Rattle.std.proofs.Common.{◌∙◌, length, get_or, refl, ap, arith}
use Rattle.std.proofs.lemmas.Result.{err_from_is_err_and}
use Rattle.std.proofs.lemmas.List.{length-map}
use Rattle.base_numbers.specs.Rational.{zero_ℚ}
use Rattle.base_fractions.specs.Operation.{operation_of}
use Rattle.solve_composition.specs.declared.affine.Affine.{Affine}
use Rattle.solve_composition.specs.Sums.{dense_column}
use Rattle.cert_checker.proofs.combination.Multiples.{added_none, added_more, added_wide, added_all}
use Rattle.cert_checker.proofs.combination.Forms.{guard_within}
use Rattle.cert_checker.proofs.combination.Entries.{guard_read}
use Rattle.cert_checker.proofs.combination.guard_sum.Goals as goal

pub loop-g-init : goal.loop-g-init
loop-g-init c = λ forms e. added_none c.args.start c.args.guards.now (dense_column c.args.column forms.guards) c.args.start refl

pub bounds-guards-g : goal.bounds-guards-g
bounds-guards-g c = guard_within c.args.paths.now c.args.edge (length c.args.guards.now) c.guards-g-end.result c.loop-g.g c.requires.edge
    c.requires.guards c.guards-g-end.ensures c.loop-g-test.true

pub returns-in_err-sum : goal.returns-in_err-sum
returns-in_err-sum c = λ forms e.
    let p = err_from_is_err_and c.from_residual.result c.from_residual.ensures.1 in
    let n = c.requires.guards forms e in
    let m = c.guards-g-end.ensures forms e in
    let size = length-map forms.guards (λ (f : Affine). get_or f.coeffs c.args.column zero_ℚ) in
    rw (p.1, p.2)
    (added_wide c.args.start c.args.guards.now (dense_column c.args.column forms.guards) c.loop-g.g c.loop-g.sum
    (c.loop-g.invariant forms e) (omega (arith, n, m, c.loop-g-test.true)) (omega (arith, n, m, size, c.loop-g-test.true))
    c.index-guards-g.result c.coefficient-entry.result c.index-guards-g.is
    (guard_read forms.guards c.loop-g.g c.args.column c.guard.result.now c.coefficient-entry.result (c.guard.ensures forms e)
    (c.coefficient-entry.ensures ∙ ap (λ cs. get_or cs c.args.column zero_ℚ) c.as_slice.ensures))
    (operation_of (λ q. q) c.in_err-sum.field-0.0) c.in_err-sum.ensures)

pub loop-g-preserved : goal.loop-g-preserved
loop-g-preserved c = λ forms e.
    let n = c.requires.guards forms e in
    let m = c.guards-g-end.ensures forms e in
    let size = length-map forms.guards (λ (f : Affine). get_or f.coeffs c.args.column zero_ℚ) in
    added_more c.args.start c.args.guards.now (dense_column c.args.column forms.guards) c.loop-g.g c.loop-g.sum (c.loop-g.invariant forms e)
    (omega (arith, n, m, c.loop-g-test.true)) (omega (arith, n, m, size, c.loop-g-test.true))
    c.index-guards-g.result c.coefficient-entry.result c.index-guards-g.is
    (guard_read forms.guards c.loop-g.g c.args.column c.guard.result.now c.coefficient-entry.result (c.guard.ensures forms e)
    (c.coefficient-entry.ensures ∙ ap (λ cs. get_or cs c.args.column zero_ℚ) c.as_slice.ensures))
    c.in_ok-sum.sum c.in_ok-sum.ensures.0 c.in_ok-sum.ensures.1

pub returns : goal.returns
returns c = λ forms e.
    let n = c.requires.guards forms e in
    let m = c.guards-g-end.ensures forms e in
    added_all c.args.start c.args.guards.now (dense_column c.args.column forms.guards) c.loop-g.g c.loop-g.sum
    (omega (arith, n, m, c.loop-g-test.false)) (c.loop-g.invariant forms e)
