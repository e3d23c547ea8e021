use Rattle.std.proofs.Common.{◌∙◌, ◌<◌, ℤ, pos, List, length, get_or, ap, arith}
use Rattle.std.proofs.lemmas.Result.{err_from_is_err_and}
use Rattle.std.proofs.lemmas.List.{length-map}
use Rattle.base_numbers.specs.Rational.{whole, zero_ℚ}
use Rattle.base_fractions.specs.Operation.{operation_of}
use Rattle.flow_systems.specs.View.{equations_of}
use Rattle.cert_checker.specs.EvidenceEvents.{row_column}
use Rattle.cert_checker.proofs.combination.Multiples.{added_none, added_more, added_wide, added_all}
use Rattle.cert_checker.proofs.combination.Entries.{row_read}
use Rattle.cert_checker.proofs.combination.row_sum.Goals as goal

pub loop-r-init : goal.loop-r-init
loop-r-init c = added_none zero_ℚ c.args.rows.now (row_column (equations_of c.args.system.now) c.args.column) c.zero-sum.result
    c.zero-sum.ensures.value

pub returns-in_err-sum : goal.returns-in_err-sum
returns-in_err-sum c =
    let p = err_from_is_err_and c.from_residual.result c.from_residual.ensures.1 in
    let S = equations_of c.args.system.now in
    let l : c.loop-r.r < length c.args.system.now.template = omega (arith, c.loop-r-test.true, c.requires) in
    let size = length-map c.args.system.now.template (λ (cs : List ℤ). whole (get_or cs c.args.column (pos 0))) in
    let row = c.index-template-r.result in
    rw (p.1, p.2)
    (added_wide zero_ℚ c.args.rows.now (row_column S c.args.column) c.loop-r.r c.loop-r.sum c.loop-r.invariant c.loop-r-test.true
    (omega (arith, l, size)) c.index-rows-r.result c.row_entry.result c.index-rows-r.is
    (row_read S c.loop-r.r c.args.column row c.row_entry.result l (c.index-template-r.is
    ∙ ap (λ rs. get_or rs c.loop-r.r row) c.as_slice-template.ensures.rows)
    (c.row_entry.ensures ∙ ap (λ cs. whole (get_or cs c.args.column (pos 0))) c.as_slice.ensures.list))
    (operation_of (λ q. q) c.in_err-sum.field-0.0) c.in_err-sum.ensures)

pub loop-r-preserved : goal.loop-r-preserved
loop-r-preserved c =
    let S = equations_of c.args.system.now in
    let l : c.loop-r.r < length c.args.system.now.template = omega (arith, c.loop-r-test.true, c.requires) in
    let size = length-map c.args.system.now.template (λ (cs : List ℤ). whole (get_or cs c.args.column (pos 0))) in
    let row = c.index-template-r.result in
    added_more zero_ℚ c.args.rows.now (row_column S c.args.column) c.loop-r.r c.loop-r.sum c.loop-r.invariant c.loop-r-test.true
    (omega (arith, l, size)) c.index-rows-r.result c.row_entry.result c.index-rows-r.is
    (row_read S c.loop-r.r c.args.column row c.row_entry.result l (c.index-template-r.is
    ∙ ap (λ rs. get_or rs c.loop-r.r row) c.as_slice-template.ensures.rows)
    (c.row_entry.ensures ∙ ap (λ cs. whole (get_or cs c.args.column (pos 0))) c.as_slice.ensures.list))
    c.in_ok-sum.sum c.in_ok-sum.ensures.0 c.in_ok-sum.ensures.1

pub returns : goal.returns
returns c = added_all zero_ℚ c.args.rows.now (row_column (equations_of c.args.system.now) c.args.column) c.loop-r.r c.loop-r.sum
    (omega arith) c.loop-r.invariant
