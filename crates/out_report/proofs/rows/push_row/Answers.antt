use Rattle.std.proofs.Common.{◌++◌, ◌≤◌, length, min, sym, ap, ◌∙◌, append-nil, arith}
use Rattle.out_report.proofs.Rests.{rest-end}
use Rattle.out_report.proofs.rows.push_row.Goals as goal

pub returns : goal.returns
returns c =
    let over : min (length c.args.names.now) (length c.args.row.now) ≤ c.loop-index.index = omega arith in
    sym (ap (λ t. c.loop-index.text.items ++ t) (rest-end _ _ _ _ over) ∙ append-nil _) ∙ c.loop-index.invariant
