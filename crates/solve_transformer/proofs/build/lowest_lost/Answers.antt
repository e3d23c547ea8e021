use Rattle.std.proofs.Common.{below_more, arith}
use Rattle.base_numbers.specs.Extended.{neg_inf, ◌<ᴱ◌}
use Rattle.solve_transformer.specs.Splits.{bounds_at}
use Rattle.solve_transformer.proofs.build.Sources.{above_read}
use Rattle.solve_transformer.proofs.build.lowest_lost.Goals as goal

pub loop-row-preserved : goal.loop-row-preserved
loop-row-preserved c =
    below_more (λ k. neg_inf <ᴱ bounds_at c.args.source.now k) c.loop-row.row c.loop-row.invariant
    (above_read c.args.source.now c.loop-row.row _ (omega (arith, c.requires.room, c.loop-row-test.true)) c.in_default.not-NegInf)
