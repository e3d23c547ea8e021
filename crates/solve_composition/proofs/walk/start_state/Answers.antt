use Rattle.std.proofs.Common.{◌≡◌, ◌∙◌, ap, map, arith}
use Rattle.std.specs.List.{range_with_len}
use Rattle.theory_validity.specs.Words.{column}
use Rattle.solve_composition.specs.Composed.{dense}
use Rattle.solve_composition.proofs.Ranges.{range_push}
use Rattle.solve_composition.proofs.walk.States.{start_is}
use Rattle.solve_composition.proofs.walk.start_state.Goals as goal

pub loop-variable-preserved : goal.loop-variable-preserved
loop-variable-preserved c =
    range_push (λ k. dense c.args.width (column k)) c.loop-variable.variable c.loop-variable.state.items c.in_ok-compose_column.field-0
    c.push.new.self.items c.in_ok-push.ensures.items c.loop-variable.invariant c.in_ok-compose_column.ensures

pub returns : goal.returns
returns c = c.loop-variable.invariant ∙ ap (λ n. map (λ k. dense c.args.width (column k)) (range_with_len 0 n))
    (let e : c.loop-variable.variable ≡ c.args.variables = omega arith in e) ∙ start_is c.args.width c.args.variables
