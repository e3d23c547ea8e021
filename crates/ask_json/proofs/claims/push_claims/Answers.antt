use Rattle.std.proofs.Common.{◌++◌, ◌≤◌, length, min, nat_lt, sym, ap, ◌∙◌, arith}
use Rattle.serde_json.specs.Written.{items_text}
use Rattle.ask_json.proofs.Rests.{claims_rest}
use Rattle.ask_json.proofs.claims.push_claims.Goals as goal

pub returns : goal.returns
returns c =
    let l = c.loop-number in
    let over : min (length c.args.claims.now) (length c.args.verdicts.now) ≤ l.number = omega arith in
    c.in_ok-extend_from_slice.ensures.items ∙ sym (ap (λ ds. l.out.items ++ items_text (nat_lt 0 l.number) ds) (claims_rest _ _ _ _ over))
    ∙ l.invariant
