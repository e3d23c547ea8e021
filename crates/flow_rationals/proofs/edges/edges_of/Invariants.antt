use Rattle.std.proofs.Common.{◌≡◌, ◌∷◌, length, take}
use Rattle.std.specs.Prelude.{flat_map}
use Rattle.std.specs.List.{enumerate_from}
use Rattle.flow_rationals.specs.System.{start_edge, alternative_edges}
use Rattle.flow_rationals.proofs.edges.edges_of.Given as goal

abbrev pub invariant-loop-k : goal.invariant-loop-k
invariant-loop-k l = l.list.items ≡ start_edge l.equations ∷ flat_map (alternative_edges (length l.equations))
    (enumerate_from 0 (take l.k l.equations))
