use Rattle.std.proofs.Common.{get_or, refl, to_z, of_z, pos, arith}
use mir.Syntax.{w64}
use Rattle.std.proofs.lemmas.Result.{err_from_is_err_and}
use Rattle.std.proofs.lemmas.List.{length-map}
use Rattle.base_fractions.specs.Operation.{operation_of}
use Rattle.flow_systems.proofs.states.Summed.{number_at, number_same, summed_none, summed_more, summed_wide, summed_all}
use Rattle.solve_composition.specs.declared.affine.Affine.{Affine}
use Rattle.solve_composition.specs.Sums.{dense_constants}
use Rattle.solve_composition.proofs.sums.Columns.{constant_read}
use Rattle.solve_composition.proofs.sums.constant_sum.Goals as goal

pub loop-i-init : goal.loop-i-init
loop-i-init c = record {
  summed = summed_none c.args.coeffs.now (dense_constants c.args.state.now) c.zero-sum.result
      c.zero-sum.ensures.value;
  fits = c.zero-sum.ensures.fits;
}

pub returns-in_err-sum : goal.returns-in_err-sum
returns-in_err-sum c =
    let p = err_from_is_err_and c.from_residual.result c.from_residual.ensures.1 in
    let n = number_at c.args.coeffs.now c.loop-i.i c.requires (omega arith) in
    let size = length-map c.args.state.now (λ (f : Affine). f.constant) in
    rw (p.1, p.2)
    (summed_wide c.args.coeffs.now (dense_constants c.args.state.now) c.loop-i.i c.loop-i.sum c.loop-i.invariant.summed (omega arith)
    (omega (arith, size)) (to_z w64 (of_z w64 (get_or c.args.coeffs.now c.loop-i.i (pos 0))))
    (get_or c.args.state.now c.loop-i.i c.index-state-i.result).constant (number_same (get_or c.args.coeffs.now c.loop-i.i (pos 0)) n)
    (constant_read c.args.state.now c.loop-i.i c.index-state-i.result (get_or c.args.state.now c.loop-i.i c.index-state-i.result).constant
    (omega arith) refl)
    (operation_of (λ q. q) c.in_err-sum.field-0.0) c.in_err-sum.ensures)

pub loop-i-preserved : goal.loop-i-preserved
loop-i-preserved c =
    let n = number_at c.args.coeffs.now c.loop-i.i c.requires (omega arith) in
    let size = length-map c.args.state.now (λ (f : Affine). f.constant) in
    record {
      summed = summed_more c.args.coeffs.now (dense_constants c.args.state.now) c.loop-i.i c.loop-i.sum c.loop-i.invariant.summed
          (omega arith) (omega (arith, size)) (to_z w64 (of_z w64 (get_or c.args.coeffs.now c.loop-i.i (pos 0))))
          (get_or c.args.state.now c.loop-i.i c.index-state-i.result).constant (number_same (get_or c.args.coeffs.now c.loop-i.i (pos 0)) n)
          (constant_read c.args.state.now c.loop-i.i c.index-state-i.result
          (get_or c.args.state.now c.loop-i.i c.index-state-i.result).constant (omega arith) refl)
          c.in_ok-sum.sum c.in_ok-sum.ensures.0 c.in_ok-sum.ensures.1;
      fits = c.in_ok-sum.ensures.2;
    }

pub returns : goal.returns
returns c =
    let size = length-map c.args.state.now (λ (f : Affine). f.constant) in
    let s = summed_all c.args.coeffs.now (dense_constants c.args.state.now) c.loop-i.i c.loop-i.sum
    (omega (arith, size)) c.loop-i.invariant.summed in
    (s.0, s.1, c.loop-i.invariant.fits)
