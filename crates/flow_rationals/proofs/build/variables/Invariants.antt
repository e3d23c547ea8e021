use Rattle.std.proofs.Common.{◌≡◌, take, map}
use Rattle.flow_rationals.specs.declared.equation.Equation.{Equation}
use Rattle.flow_rationals.proofs.build.variables.Given as goal

abbrev pub invariant-loop-equation : goal.invariant-loop-equation
invariant-loop-equation l = l.list.items ≡ map (λ (e : Equation). e.name) (take l.equation-index l.equations)
