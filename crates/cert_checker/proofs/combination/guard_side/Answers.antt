use Rattle.std.proofs.Common.{length, refl, arith}
use Rattle.std.proofs.lemmas.Result.{err_from_is_err_and}
use Rattle.std.proofs.lemmas.List.{length-map}
use Rattle.base_numbers.specs.Rational.{neg_ℚ}
use Rattle.base_fractions.specs.Operation.{operation_of}
use Rattle.solve_composition.specs.declared.affine.Affine.{Affine}
use Rattle.cert_checker.specs.Combined.{negated_constants}
use Rattle.cert_checker.proofs.combination.Multiples.{added_none, added_more, added_wide, added_all}
use Rattle.cert_checker.proofs.combination.Forms.{guard_within}
use Rattle.cert_checker.proofs.combination.Entries.{constant_read}
use Rattle.cert_checker.proofs.combination.guard_side.Goals as goal

pub loop-g-init : goal.loop-g-init
loop-g-init c = λ forms e. added_none c.args.start c.args.guards.now (negated_constants forms.guards) c.args.start refl

pub bounds-guards-g : goal.bounds-guards-g
bounds-guards-g c = guard_within c.args.paths.now c.args.edge (length c.args.guards.now) c.guards-g-end.result c.loop-g.g c.requires.edge
    c.requires.guards c.guards-g-end.ensures c.loop-g-test.true

pub returns-in_err-sum : goal.returns-in_err-sum
returns-in_err-sum c = λ forms e.
    let p = err_from_is_err_and c.from_residual.result c.from_residual.ensures.1 in
    let n = c.requires.guards forms e in
    let m = c.guards-g-end.ensures forms e in
    let size = length-map forms.guards (λ (f : Affine). neg_ℚ f.constant) in
    rw (p.1, p.2)
    (added_wide c.args.start c.args.guards.now (negated_constants forms.guards) c.loop-g.g c.loop-g.sum (c.loop-g.invariant forms e)
    (omega (arith, n, m, c.loop-g-test.true)) (omega (arith, n, m, size, c.loop-g-test.true))
    c.index-guards-g.result c.negate-number.result c.index-guards-g.is
    (constant_read forms.guards c.loop-g.g c.guard.result.now c.negate-number.result (c.guard.ensures forms e)
    c.negate-number.ensures.value)
    (operation_of (λ q. q) c.in_err-sum.field-0.0) c.in_err-sum.ensures)

pub loop-g-preserved : goal.loop-g-preserved
loop-g-preserved c = λ forms e.
    let n = c.requires.guards forms e in
    let m = c.guards-g-end.ensures forms e in
    let size = length-map forms.guards (λ (f : Affine). neg_ℚ f.constant) in
    added_more c.args.start c.args.guards.now (negated_constants forms.guards) c.loop-g.g c.loop-g.sum (c.loop-g.invariant forms e)
    (omega (arith, n, m, c.loop-g-test.true)) (omega (arith, n, m, size, c.loop-g-test.true))
    c.index-guards-g.result c.negate-number.result c.index-guards-g.is
    (constant_read forms.guards c.loop-g.g c.guard.result.now c.negate-number.result (c.guard.ensures forms e)
    c.negate-number.ensures.value)
    c.in_ok-sum.sum c.in_ok-sum.ensures.0 c.in_ok-sum.ensures.1

pub returns : goal.returns
returns c = λ forms e.
    let n = c.requires.guards forms e in
    let m = c.guards-g-end.ensures forms e in
    added_all c.args.start c.args.guards.now (negated_constants forms.guards) c.loop-g.g c.loop-g.sum
    (omega (arith, n, m, c.loop-g-test.false)) (c.loop-g.invariant forms e)
