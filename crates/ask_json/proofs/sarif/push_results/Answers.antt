use Rattle.std.proofs.Common.{◌++◌, ◌≤◌, length, min, sym, ap, ◌∙◌, arith}
use Rattle.serde_json.specs.Written.{items_text}
use Rattle.ask_json.proofs.Rests.{results_rest}
use Rattle.ask_json.proofs.sarif.push_results.Goals as goal

pub returns : goal.returns
returns c =
    let l = c.loop-number in
    let over : min (length c.args.checks.now) (length c.args.verdicts.now) ≤ l.number = omega arith in
    c.in_ok-extend_from_slice.ensures.items ∙ sym (ap (λ ds. l.out.items ++ items_text l.later ds) (results_rest _ _ _ _ _ _ over))
    ∙ l.invariant
