use Rattle.std.proofs.Common.{◌+◌}
use Rattle.lp_theory.specs.Listed.{at}
use Rattle.solve_composition.proofs.Ranges.{range_push}
use Rattle.solve_transformer.proofs.read.guard_multipliers.Goals as goal

pub loop-guard-preserved : goal.loop-guard-preserved
loop-guard-preserved c =
    range_push (λ k. at c.args.multipliers.now (c.args.first + k)) c.loop-guard.guard c.loop-guard.list.items c.entry.result
    c.push.new.self.items c.in_ok-push.ensures.items c.loop-guard.invariant c.entry.ensures
