use Rattle.base_fractions.specs.Fits.{Fits, long_limit}
use Rattle.flow_systems.proofs.states.Summed.{IsSummed}
use Rattle.solve_composition.specs.Sums.{dense_constants}
use Rattle.solve_composition.proofs.sums.constant_sum.Given as goal

abbrev pub invariant-loop-i : goal.invariant-loop-i
invariant-loop-i l = record { summed : IsSummed l.coeffs (dense_constants l.state) l.i l.sum; fits : Fits long_limit l.sum }
