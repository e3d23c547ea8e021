use Rattle.std.proofs.Common.{◌∙◌, ap, sym, arith}
use Rattle.solve_transformer.specs.Splits.{bounds_at}
use Rattle.solve_transformer.specs.Readings.{finite_one}
use Rattle.solve_transformer.proofs.build.Sources.{bound_read, skip_none, skip_more, skip_all, onward}
use Rattle.solve_transformer.proofs.read.count_finite.Goals as goal

pub loop-row-init : goal.loop-row-init
loop-row-init c = record { count = λ template e y. skip_none (bounds_at c.args.source.now) template y; few = omega arith }

pub loop-row-preserved : goal.loop-row-preserved
loop-row-preserved c =
    let few = c.loop-row.invariant.few in
    let one = c.finite_rows-count.ensures.few in
    let l = c.loop-row-test.true in
    let read = bound_read c.args.source.now c.loop-row.row c.index-source-row.result (omega (arith, c.requires.room, l))
    c.index-source-row.is in
    record {
      count = λ template e y.
          skip_more (bounds_at c.args.source.now) template c.loop-row.row (omega (arith, l, e)) y c.loop-row.count
          c.finite_rows-count.result (c.finite_rows-count.ensures.count ∙ ap finite_one (sym read))
          (c.loop-row.invariant.count template e y);
      few = omega (arith, few, one);
    }

pub returns-clause-count : goal.returns-clause-count
returns-clause-count c = λ template e y.
    c.loop-row.invariant.count template e y ∙ skip_all (bounds_at c.args.source.now) template (onward y c.loop-row.count) c.loop-row.row
    (omega (arith, e, c.loop-row-test.false))
