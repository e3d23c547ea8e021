use Rattle.std.proofs.Common.{◌∙◌, subst₂}
use Rattle.flow_systems.specs.Sums.{SumAnswers}
use Rattle.flow_systems.specs.View.{equations_of}
use Rattle.solve_raise.specs.Moves.{carried as value_of, carried_operations, trace_of}
use Rattle.solve_raise.proofs.carry.carried.Goals as goal

pub returns : goal.returns
returns c = λ e cs f g.
    subst₂ (λ start free. SumAnswers (value_of c.args.constants (equations_of c.args.system.now) e cs (trace_of start free))
    (carried_operations c.args.constants e cs (trace_of start free)) c.carried_from.result)
    (c.new-state.ensures ∙ c.as_slice.ensures) c.as_slice-2.ensures (c.carried_from.ensures e cs f g)
