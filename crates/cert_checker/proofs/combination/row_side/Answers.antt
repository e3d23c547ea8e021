use Rattle.std.proofs.Common.{◌∙◌, ℕ, ◌<◌, length, map, ap, arith}
use Rattle.std.specs.List.{range_with_len}
use Rattle.std.proofs.lemmas.Result.{err_from_is_err_and}
use Rattle.std.proofs.lemmas.List.{length-map}
use Rattle.std.proofs.lemmas.List.FromFn.{length-range_with_len}
use Rattle.base_numbers.specs.Rational.{ℚ, zero_ℚ}
use Rattle.base_fractions.specs.Extended.{extended}
use Rattle.base_fractions.specs.Operation.{operation_of}
use Rattle.flow_systems.specs.View.{equations_of}
use Rattle.theory_validity.specs.Certificates.{num}
use Rattle.cert_checker.proofs.combination.Multiples.{added_none, added_more, added_wide, added_all}
use Rattle.cert_checker.proofs.combination.Entries.{bound_at_row, number_read}
use Rattle.cert_checker.proofs.combination.row_side.Goals as goal

pub loop-r-init : goal.loop-r-init
loop-r-init c = λ z h. added_none zero_ℚ c.args.rows.now (map (λ r. num (z c.args.point r))
    (range_with_len 0 (length c.args.system.now.template))) c.zero-sum.result c.zero-sum.ensures.value

pub returns-in_err-sum : goal.returns-in_err-sum
returns-in_err-sum c = λ z h.
    let p = err_from_is_err_and c.from_residual.result c.from_residual.ensures.1 in
    let S = equations_of c.args.system.now in
    let f : ℕ → ℚ = λ r. num (z c.args.point r) in
    let n = length c.args.system.now.template in
    let l : c.loop-r.r < n = omega (arith, c.loop-r-test.true, c.requires.rows) in
    let a = length-map (range_with_len 0 n) f in
    let b = length-range_with_len 0 n in
    rw (p.1, p.2)
    (added_wide zero_ℚ c.args.rows.now (map f (range_with_len 0 n)) c.loop-r.r c.loop-r.sum (c.loop-r.invariant z h) c.loop-r-test.true
    (omega (arith, l, a, b)) c.index-rows-r.result c.finite_part.result c.index-rows-r.is
    (number_read f n c.loop-r.r c.finite_part.result l
    (c.finite_part.ensures ∙ ap num (bound_at_row S c.args.bounds.now z h c.args.point c.loop-r.r (length c.as_slice.result.now)
    (extended c.at-bound.result) c.requires.point l (ap (λ rs. length rs) c.as_slice.ensures.rows) c.at-bound.ensures)))
    (operation_of (λ q. q) c.in_err-sum.field-0.0) c.in_err-sum.ensures)

pub loop-r-preserved : goal.loop-r-preserved
loop-r-preserved c = λ z h.
    let S = equations_of c.args.system.now in
    let f : ℕ → ℚ = λ r. num (z c.args.point r) in
    let n = length c.args.system.now.template in
    let l : c.loop-r.r < n = omega (arith, c.loop-r-test.true, c.requires.rows) in
    let a = length-map (range_with_len 0 n) f in
    let b = length-range_with_len 0 n in
    added_more zero_ℚ c.args.rows.now (map f (range_with_len 0 n)) c.loop-r.r c.loop-r.sum (c.loop-r.invariant z h) c.loop-r-test.true
    (omega (arith, l, a, b)) c.index-rows-r.result c.finite_part.result c.index-rows-r.is
    (number_read f n c.loop-r.r c.finite_part.result l
    (c.finite_part.ensures ∙ ap num (bound_at_row S c.args.bounds.now z h c.args.point c.loop-r.r (length c.as_slice.result.now)
    (extended c.at-bound.result) c.requires.point l (ap (λ rs. length rs) c.as_slice.ensures.rows) c.at-bound.ensures)))
    c.in_ok-sum.sum c.in_ok-sum.ensures.0 c.in_ok-sum.ensures.1

pub returns : goal.returns
returns c = λ z h. added_all zero_ℚ c.args.rows.now (map (λ r. num (z c.args.point r))
    (range_with_len 0 (length c.args.system.now.template))) c.loop-r.r c.loop-r.sum (omega arith) (c.loop-r.invariant z h)
