use Rattle.std.proofs.Common.{◌≡◌, ◌++◌, drop}
use Rattle.ask_claims.specs.Lines.{claim_lines}
use Rattle.ask_claims.proofs.lines.push_claims.Given as goal

abbrev pub invariant-loop-number : goal.invariant-loop-number
invariant-loop-number l =
    l.text.items ++ claim_lines l.names l.number (drop l.number l.claims) (drop l.number l.verdicts)
    ≡ l.initial.text.items ++ claim_lines l.names 0 l.claims l.verdicts
