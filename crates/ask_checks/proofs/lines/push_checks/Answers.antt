use Rattle.std.proofs.Common.{◌++◌, ◌≤◌, length, min, sym, ap, ◌∙◌, append-nil, arith}
use Rattle.ask_checks.proofs.Rests.{lines_rest}
use Rattle.ask_checks.proofs.lines.push_checks.Goals as goal

pub returns : goal.returns
returns c =
    let over : min (length c.args.checks.now) (length c.args.verdicts.now) ≤ c.loop-number.number = omega arith in
    sym (ap (λ t. c.loop-number.out.items ++ t) (lines_rest _ _ _ _ _ _ over) ∙ append-nil _) ∙ c.loop-number.invariant
