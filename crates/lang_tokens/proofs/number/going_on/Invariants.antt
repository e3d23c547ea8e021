use Rattle.std.proofs.Common.{◌≡◌, ◌+◌, drop}
use Rattle.lang_tokens.specs.Steps.{going_on}
use Rattle.lang_tokens.proofs.number.going_on.Given as goal

abbrev pub invariant-loop-index : goal.invariant-loop-index
invariant-loop-index l = going_on l.fn.last l.rest ≡ l.index + going_on l.last (drop l.index l.rest)
