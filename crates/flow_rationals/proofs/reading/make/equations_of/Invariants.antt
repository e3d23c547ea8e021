use Rattle.std.proofs.Common.{◌≡◌, take, map, length, IsTrue}
use Rattle.std.specs.List.{list_all}
use Rattle.flow_rationals.specs.Equations.{is_equation}
use Rattle.flow_rationals.specs.EquationTexts.{equation_of}
use Rattle.flow_rationals.proofs.reading.make.equations_of.Given as goal

abbrev pub invariant-loop-equation : goal.invariant-loop-equation
invariant-loop-equation l = record {
  made : l.made.items ≡ map (equation_of l.equations) (take l.equation-index l.equations);
  fit : IsTrue (list_all (is_equation (length l.equations)) l.made.items);
}
