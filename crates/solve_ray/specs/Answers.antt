-- What a call answers that reads numbers from a solved problem.
use Rattle.std.specs.Prelude.{◌≡◌, List, None, Some, Result, MatchResult}
use Rattle.flow_systems.specs.declared.spot.Part.TheVariants.{Reading}
use Rattle.flow_systems.specs.declared.spot.PartFault.{PartFault}
use Rattle.flow_systems.specs.declared.spot.PartFault.TheVariants.{Wide, NoMemory}
use Rattle.base_fractions.specs.Fits.{long_limit}
use Rattle.base_fractions.specs.Operation.{Operation, first_wide, operation_of}

-- the fault carries the first of the operations that is wide, as a part of the reading; want of memory may come at any time
abbrev pub IsReadingFault : List Operation → PartFault → Type 0
IsReadingFault os (Wide part wide) = (part ≡ Reading) × (first_wide long_limit os ≡ Some (operation_of (λ q. q) wide))
IsReadingFault os NoMemory = Unit {0}

-- the answer is this and none of the operations is wide, or the first that is wide is named
abbrev pub PartAnswers : {A : Type 0} → A → List Operation → Result A PartFault → Type 0
PartAnswers answer os result = MatchResult result (λ r. (r ≡ answer) × (first_wide long_limit os ≡ None)) (λ f. IsReadingFault os f)
