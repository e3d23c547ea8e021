use Rattle.std.proofs.Common.{get_or, to_z, of_z, pos, arith}
use mir.Syntax.{w64}
use Rattle.std.proofs.lemmas.Result.{err_from_is_err_and}
use Rattle.std.proofs.lemmas.List.{length-map}
use Rattle.base_numbers.specs.Rational.{zero_ℚ}
use Rattle.base_fractions.specs.Operation.{operation_of}
use Rattle.flow_systems.proofs.states.Summed.{number_at, number_same, summed_none, summed_more, summed_wide, summed_all}
use Rattle.solve_composition.specs.declared.affine.Affine.{Affine}
use Rattle.solve_composition.specs.Sums.{dense_column}
use Rattle.solve_composition.proofs.sums.Columns.{column_read}
use Rattle.solve_composition.proofs.sums.column_sum.Goals as goal

pub loop-i-init : goal.loop-i-init
loop-i-init c = record {
  summed = summed_none c.args.coeffs.now (dense_column c.args.column c.args.state.now) c.zero-sum.result
      c.zero-sum.ensures.value;
  fits = c.zero-sum.ensures.fits;
}

pub returns-in_err-sum : goal.returns-in_err-sum
returns-in_err-sum c =
    let p = err_from_is_err_and c.from_residual.result c.from_residual.ensures.1 in
    let n = number_at c.args.coeffs.now c.loop-i.i c.requires.numbers (omega arith) in
    let size = length-map c.args.state.now (λ (f : Affine). get_or f.coeffs c.args.column zero_ℚ) in
    rw (p.1, p.2)
    (summed_wide c.args.coeffs.now (dense_column c.args.column c.args.state.now) c.loop-i.i c.loop-i.sum c.loop-i.invariant.summed
    (omega arith) (omega (arith, size)) (to_z w64 (of_z w64 (get_or c.args.coeffs.now c.loop-i.i (pos 0))))
    c.index-as_slice-column.result (number_same (get_or c.args.coeffs.now c.loop-i.i (pos 0)) n)
    (column_read c.args.state.now c.loop-i.i c.args.column c.index-state-i.result c.as_slice.result.now c.index-as_slice-column.result
    (omega arith) c.requires.column c.as_slice.ensures c.index-as_slice-column.is)
    (operation_of (λ q. q) c.in_err-sum.field-0.0) c.in_err-sum.ensures)

pub loop-i-preserved : goal.loop-i-preserved
loop-i-preserved c =
    let n = number_at c.args.coeffs.now c.loop-i.i c.requires.numbers (omega arith) in
    let size = length-map c.args.state.now (λ (f : Affine). get_or f.coeffs c.args.column zero_ℚ) in
    record {
      summed = summed_more c.args.coeffs.now (dense_column c.args.column c.args.state.now) c.loop-i.i c.loop-i.sum c.loop-i.invariant.summed
          (omega arith) (omega (arith, size)) (to_z w64 (of_z w64 (get_or c.args.coeffs.now c.loop-i.i (pos 0))))
          c.index-as_slice-column.result (number_same (get_or c.args.coeffs.now c.loop-i.i (pos 0)) n)
          (column_read c.args.state.now c.loop-i.i c.args.column c.index-state-i.result c.as_slice.result.now c.index-as_slice-column.result
          (omega arith) c.requires.column c.as_slice.ensures c.index-as_slice-column.is)
          c.in_ok-sum.sum c.in_ok-sum.ensures.0 c.in_ok-sum.ensures.1;
      fits = c.in_ok-sum.ensures.2;
    }

pub returns : goal.returns
returns c =
    let size = length-map c.args.state.now (λ (f : Affine). get_or f.coeffs c.args.column zero_ℚ) in
    let s = summed_all c.args.coeffs.now (dense_column c.args.column c.args.state.now) c.loop-i.i c.loop-i.sum
    (omega (arith, size)) c.loop-i.invariant.summed in
    (s.0, s.1, c.loop-i.invariant.fits)
