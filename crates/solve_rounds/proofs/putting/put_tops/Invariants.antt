use Rattle.std.proofs.Common.{◌≡◌, map}
use Rattle.base_numbers.specs.Extended.{pos_inf}
use Rattle.solve_rounds.specs.Putting.{puts}
use Rattle.solve_rounds.proofs.putting.put_tops.Given as goal

abbrev pub invariant-loop-k : goal.invariant-loop-k
invariant-loop-k l = l.bounds ≡ puts (λ k. pos_inf) (map (λ rate. rate.unknown) l.rates) l.initial.bounds l.k
