use Rattle.std.proofs.Common.{◌≡◌, ◌∷◌, take, map}
use Rattle.flow_edges.specs.declared.edge.Action.TheVariants.{Guard, Havoc}
use Rattle.flow_rationals.specs.System.{sum_form}
use Rattle.flow_rationals.proofs.edges.alternative_edge.Given as goal

abbrev pub invariant-loop-sum : goal.invariant-loop-sum
invariant-loop-sum l = l.actions.items ≡ Havoc l.names ∷ map (λ s. Guard (sum_form s)) (take l.sum-index l.sums)
