use Rattle.lp_theory.specs.Listed.{at}
use Rattle.solve_transformer.specs.Splits.{bounds_at}
use Rattle.solve_transformer.proofs.read.Outcomes.{multipliers_read}
use Rattle.solve_transformer.proofs.read.read_empty.Goals as goal

pub returns : goal.returns
returns c = λ n w constant template e.
    multipliers_read (bounds_at c.args.source.now) template c.args.sizes.guards c.count_finite-first.result (at c.args.multipliers.now)
    c.in_ok-rows.rows c.in_ok-guards.guards (c.in_ok-rows.ensures template e)
    (c.count_finite-first.ensures.count template e (at c.args.multipliers.now)) c.in_ok-guards.ensures
