use Rattle.std.proofs.Common.{◌∙◌, ap, sym, arith}
use Rattle.lp_theory.specs.Listed.{at}
use Rattle.solve_transformer.specs.Splits.{bounds_at}
use Rattle.solve_transformer.specs.Readings.{finite_one, multiplier_one}
use Rattle.solve_transformer.proofs.build.Sources.{bound_read, spread_more, spread_all, onward}
use Rattle.solve_transformer.proofs.read.row_multipliers.Goals as goal

pub loop-row-preserved : goal.loop-row-preserved
loop-row-preserved c =
    let few = c.loop-row.invariant.few in
    let one = c.finite_rows-next.ensures.few in
    let l = c.loop-row-test.true in
    let read = bound_read c.args.source.now c.loop-row.row c.index-source-row.result (omega (arith, c.requires.room, l))
    c.index-source-row.is in
    let again = bound_read c.args.source.now c.loop-row.row c.index-source-row-in-loop-row.result (omega (arith, c.requires.room, l))
    c.index-source-row-in-loop-row.is in
    record {
      list = λ template e.
          spread_more (bounds_at c.args.source.now) template c.loop-row.row (omega (arith, l, e)) (at c.args.multipliers.now)
          c.loop-row.next c.finite_rows-next.result c.entry.result c.multiplier-number.result c.loop-row.list.items
          c.push.new.self.items
          c.entry.ensures (c.multiplier-number.ensures ∙ ap (λ b. multiplier_one b c.entry.result) (sym read))
          (c.finite_rows-next.ensures.count ∙ ap finite_one (sym again)) c.in_ok-push.ensures.items
          (c.loop-row.invariant.list template e);
      few = omega (arith, few, one);
    }

pub returns : goal.returns
returns c = λ template e.
    c.new.ensures ∙ spread_all (bounds_at c.args.source.now) template (at c.args.multipliers.now)
    (onward (at c.args.multipliers.now) c.loop-row.next) c.loop-row.row c.loop-row.list.items (omega (arith, e, c.loop-row-test.false))
    (c.loop-row.invariant.list template e)
