use Rattle.std.proofs.Common.{◌++◌, ◌≤◌, length, min, sym, ap, ◌∙◌, append-nil, arith}
use Rattle.ask_claims.proofs.Rests.{lines_rest}
use Rattle.ask_claims.proofs.lines.push_claims.Goals as goal

pub returns : goal.returns
returns c =
    let over : min (length c.args.claims.now) (length c.args.verdicts.now) ≤ c.loop-number.number = omega arith in
    sym (ap (λ t. c.loop-number.text.items ++ t) (lines_rest _ _ _ _ _ over) ∙ append-nil _) ∙ c.loop-number.invariant
