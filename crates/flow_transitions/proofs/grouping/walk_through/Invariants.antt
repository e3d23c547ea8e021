use Rattle.std.proofs.Common.{◌≡◌, [], drop}
use Rattle.flow_transitions.specs.AutoGrammar.{tokens_here}
use Rattle.flow_transitions.specs.AutoWalk.{at_start, walked}
use Rattle.flow_transitions.proofs.grouping.walk_through.Given as goal

abbrev pub invariant-loop-at : goal.invariant-loop-at
invariant-loop-at l =
    walked l.names (tokens_here l.text (drop l.at l.tokens)) l.walk ≡ walked l.names (tokens_here l.text l.tokens) (at_start [])
