use Rattle.std.proofs.Common.{◌≡◌, take, map}
use Rattle.flow_rationals.specs.EquationTexts.{alternative_of}
use Rattle.flow_rationals.proofs.reading.make.alternatives_of.Given as goal

abbrev pub invariant-loop-choice : goal.invariant-loop-choice
invariant-loop-choice l = l.alternatives.items ≡ map (alternative_of l.equations) (take l.choice-index l.choices)
