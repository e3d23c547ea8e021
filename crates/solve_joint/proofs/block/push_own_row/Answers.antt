use Rattle.std.proofs.Common.{◌∙◌, length, ap, arith}
use Rattle.std.proofs.lemmas.List.{length-map}
use Rattle.base_numbers.specs.Rational.{neg_ℚ}
use Rattle.solve_joint.specs.Rows.{dense_row, on_numbers}
use Rattle.solve_joint.proofs.block.Standing.{on_ok_both, stand_more, own_stands}
use Rattle.solve_joint.proofs.block.push_own_row.Goals as goal

pub row_over-requires : goal.row_over-requires
row_over-requires c =
    let e = ap length (c.as_slice.ensures.value ∙ c.in_ok-turned.ensures) in
    let k = length-map c.args.coeffs.now neg_ℚ in
    omega (arith, e, k, c.requires)

pub returns : goal.returns
returns c = on_ok_both c.push_row.result c.push_row.ensures.coeffs c.push_row.ensures.sides
    (λ e f form ls h s. stand_more c.args.span.now.cols _ _ _ _ ls c.in_ok-entries.entries c.args.side _ e f
    (own_stands c.args.span.now.cols c.args.target c.args.span.now.list.now c.args.span.now.offset c.args.coeffs.now
    c.in_ok-turned.turned.items
    c.in_ok-entries.entries c.one.result c.args.side form c.requires h.entries c.one.ensures.value c.in_ok-turned.ensures
    (c.in_ok-entries.ensures ∙ ap (λ u. dense_row c.args.span.now.cols (on_numbers c.one.result c.args.target c.args.span.now.list.now)
    c.args.span.now.offset u)
    c.as_slice.ensures.value)) s)
