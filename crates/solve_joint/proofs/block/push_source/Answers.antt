use Rattle.std.proofs.Common.{◌∙◌, length, ap, arith}
use Rattle.std.proofs.lemmas.List.{length-map}
use Rattle.base_numbers.specs.Rational.{one_ℚ, neg_ℚ, whole}
use Rattle.solve_joint.specs.Rows.{dense_row, on_numbers, embedded}
use Rattle.solve_joint.proofs.block.Standing.{on_ok_both, stand_more, source_stands, source_finite, source_below, source_above}
use Rattle.solve_joint.proofs.block.push_source.Goals as goal

pub returns-in_ok-entries-in-Fin : goal.returns-in_ok-entries-in-Fin
returns-in_ok-entries-in-Fin c = on_ok_both c.push_row.result c.push_row.ensures.coeffs c.push_row.ensures.sides
    (λ e f n ls l s. rw (
      c.in-Fin.is,
      source_finite (embedded (neg_ℚ one_ℚ) c.args.target c.args.span.now.list.now c.args.span.now.offset) n c.in-Fin.side
          c.args.row.now,
    )
    (stand_more c.args.span.now.cols _ _ _ _ ls c.in_ok-entries-in-Fin.entries c.in-Fin.side _ e f
    (source_stands c.args.span.now.cols c.args.target c.args.span.now.list.now c.args.span.now.offset n c.args.row.now
    c.in_ok-coeffs-in-Fin.coeffs.items
    c.in_ok-entries-in-Fin.entries c.negate-minus_one.result c.in-Fin.side c.requires.fits l c.in_ok-coeffs-in-Fin.ensures
    (c.negate-minus_one.ensures.value ∙ ap neg_ℚ c.one.ensures.value)
    (c.in_ok-entries-in-Fin.ensures ∙ ap (λ u. dense_row c.args.span.now.cols (on_numbers c.negate-minus_one.result c.args.target
    c.args.span.now.list.now)
    c.args.span.now.offset u) c.as_slice.ensures.value)) s))

pub row_over-requires : goal.row_over-requires
row_over-requires c =
    let e = ap length (c.as_slice.ensures.value ∙ c.in_ok-coeffs-in-Fin.ensures) in
    let k = length-map c.args.row.now whole in
    omega (arith, e, k, c.requires.fits)

pub returns-in-NegInf : goal.returns-in-NegInf
returns-in-NegInf c = λ n ls l s. rw (
  c.in-NegInf.is,
  source_below (embedded (neg_ℚ one_ℚ) c.args.target c.args.span.now.list.now c.args.span.now.offset) n
      c.args.row.now ls,
) s

pub returns-in-PosInf : goal.returns-in-PosInf
returns-in-PosInf c = λ n ls l s. rw (
  c.in-PosInf.is,
  source_above (embedded (neg_ℚ one_ℚ) c.args.target c.args.span.now.list.now c.args.span.now.offset) n
      c.args.row.now ls,
) s
