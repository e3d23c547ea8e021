use Rattle.std.proofs.Common.{◌≡◌, drop}
use Rattle.ask_claims.specs.Steps.{first_choice}
use Rattle.ask_claims.proofs.reading.first_choice.Given as goal

abbrev pub invariant-loop-token : goal.invariant-loop-token
invariant-loop-token l = first_choice (drop l.token-index l.tokens) ≡ first_choice l.tokens
