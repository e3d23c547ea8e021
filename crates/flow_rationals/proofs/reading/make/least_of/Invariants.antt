use Rattle.std.proofs.Common.{◌≡◌, ◌∷◌, take, map}
use Rattle.flow_rationals.specs.WrittenSums.{sum_of}
use Rattle.flow_rationals.proofs.reading.make.least_of.Given as goal

abbrev pub invariant-loop-sum : goal.invariant-loop-sum
invariant-loop-sum l = l.sums.items ≡ l.fn.first ∷ map (sum_of l.equations) (take l.sum-index l.more)
