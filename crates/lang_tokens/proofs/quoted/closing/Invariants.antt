use Rattle.std.proofs.Common.{◌≡◌, ◌+◌, drop, false}
use Rattle.std.specs.Option.{option_map}
use Rattle.lang_tokens.specs.Steps.{closing}
use Rattle.lang_tokens.proofs.quoted.closing.Given as goal

abbrev pub invariant-loop-place : goal.invariant-loop-place
invariant-loop-place l =
    closing l.quote false l.rest ≡ option_map (λ place. l.place + place) (closing l.quote l.passes (drop l.place l.rest))
