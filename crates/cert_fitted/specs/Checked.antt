-- What the check of a written certificate answers.
use Rattle.std.specs.Prelude.{◌≡◌, ℕ, Bool, List, None, Result, Some, MatchResult, length, nat_lt}
use Rattle.cert_checker.specs.Events.{Event, first_stop}
use Rattle.cert_written.specs.declared.step.Step.{Step}
use Rattle.cert_written.specs.declared.step.Step.TheVariants.{Plain, Jump, Ray}
use Rattle.cert_fitted.specs.declared.checking.FittedFault.{FittedFault}
use Rattle.cert_fitted.specs.declared.checking.FittedFault.TheVariants.{Check, NoMemory}

-- how many items a written step has, and so the step for which it stands
abbrev pub item_count : Step → ℕ
item_count (Plain items) = length items
item_count (Jump items) = length items
item_count (Ray items) = length items

-- they can be numbered by 32 bits
abbrev pub is_short : Step → Bool
is_short step = nat_lt (item_count step) 4294967296

-- a check ends so: with the first event that stops, or for want of memory, which is wanted anywhere
abbrev pub EndsAt : List Event → FittedFault → Type 0
EndsAt events (Check fault) = first_stop events ≡ Some fault
EndsAt events NoMemory = Unit {0}

-- no event stops and this is so of the answer, or the check ends otherwise
abbrev pub IsFittedRun : {A : Type 0} → (A → Type 0) → List Event → Result A FittedFault → Type 0
IsFittedRun P events result = MatchResult result (λ r. P r × (first_stop events ≡ None)) (EndsAt events)
