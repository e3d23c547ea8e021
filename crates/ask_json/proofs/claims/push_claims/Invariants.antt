use Rattle.std.proofs.Common.{◌≡◌, ◌++◌, drop, false, nat_lt}
use Rattle.serde_json.specs.Written.{items_text}
use Rattle.ask_json.specs.Claims.{claim_values}
use Rattle.ask_json.proofs.claims.push_claims.Given as goal

abbrev pub invariant-loop-number : goal.invariant-loop-number
invariant-loop-number l =
    l.out.items ++ items_text (nat_lt 0 l.number) (claim_values l.names (drop l.number l.claims) (drop l.number l.verdicts))
    ≡ l.initial.out.items ++ items_text false (claim_values l.names l.claims l.verdicts)
