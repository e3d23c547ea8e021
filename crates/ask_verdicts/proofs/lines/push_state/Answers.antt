use Rattle.std.proofs.Common.{◌++◌, ◌≤◌, length, min, sym, ap, ◌∙◌, append-nil, arith}
use Rattle.ask_verdicts.proofs.Rests.{state_rest}
use Rattle.ask_verdicts.proofs.lines.push_state.Goals as goal

pub returns : goal.returns
returns c =
    let over : min (length c.args.names.now) (length c.args.state.now) ≤ c.loop-index.index = omega arith in
    sym (ap (λ t. c.loop-index.text.items ++ t) (state_rest _ _ _ _ over) ∙ append-nil _) ∙ c.loop-index.invariant
