use Rattle.std.proofs.Common.{◌≤◌, length, min, sym, ◌∙◌, arith}
use Rattle.out_json.proofs.states.Rests.{rest_end}
use Rattle.out_json.proofs.state.variables_of.Goals as goal

pub returns : goal.returns
returns c =
    let over : min (length c.args.names.now) (length c.args.state.now) ≤ c.loop-index.index = omega arith in
    sym (rest_end _ _ _ _ over) ∙ c.loop-index.invariant
