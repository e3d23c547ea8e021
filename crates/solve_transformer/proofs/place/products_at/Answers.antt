use Rattle.std.proofs.Common.{arith}
use Rattle.std.proofs.lemmas.Result.{err_from_is_err_and}
use Rattle.base_fractions.specs.Operation.{operation_of}
use Rattle.solve_transformer.proofs.place.Sums.{summed_none, summed_more, summed_wide, summed_all}
use Rattle.solve_transformer.proofs.place.products_at.Goals as goal

pub loop-column-init : goal.loop-column-init
loop-column-init c = summed_none c.args.coeffs.now c.args.word.now c.zero-sum.result c.zero-sum.ensures.value

pub returns-in_err-sum : goal.returns-in_err-sum
returns-in_err-sum c =
    let p = err_from_is_err_and c.from_residual.result c.from_residual.ensures.1 in
    rw (p.1, p.2)
    (summed_wide c.args.coeffs.now c.args.word.now c.loop-column.column c.loop-column.sum c.loop-column.invariant
    (omega arith) (omega arith)
    c.index-coeffs-column.result c.index-word-column.result c.index-coeffs-column.is c.index-word-column.is
    (operation_of (λ q. q) c.in_err-sum.field-0.0) c.in_err-sum.ensures)

pub loop-column-preserved : goal.loop-column-preserved
loop-column-preserved c =
    summed_more c.args.coeffs.now c.args.word.now c.loop-column.column c.loop-column.sum c.loop-column.invariant (omega arith) (omega arith)
    c.index-coeffs-column.result c.index-word-column.result c.index-coeffs-column.is c.index-word-column.is c.in_ok-sum.sum
    c.in_ok-sum.ensures.0 c.in_ok-sum.ensures.1

pub returns : goal.returns
returns c = summed_all c.args.coeffs.now c.args.word.now c.loop-column.column c.loop-column.sum (omega arith) c.loop-column.invariant
