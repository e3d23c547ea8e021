-- What is answered where operations may be too wide.
use Rattle.std.specs.Prelude.{◌≡◌, List, Some, None, Result, MatchResult}
use Rattle.base_numbers.specs.Rational.{ℚ}
use Rattle.base_fractions.specs.Fits.{long_limit}
use Rattle.base_fractions.specs.Operation.{Operation, first_wide, operation_of}
use Rattle.base_fractions.specs.declared.wide.Wide.{Wide as WideOperation}
use Rattle.flow_systems.specs.declared.fault.Fault.{Fault}
use Rattle.flow_systems.specs.declared.fault.Fault.TheVariants.{Wide, NoMemory}

-- why a value isn't made by operations
abbrev pub OperationFault : Type 0
OperationFault = Fault (WideOperation ℚ)

-- the fault carries the first of the operations that is wide; want of memory may come at any time
abbrev pub IsFaultOf : List Operation → OperationFault → Type 0
IsFaultOf operations (Wide wide) = first_wide long_limit operations ≡ Some (operation_of (λ (q : ℚ). q) wide)
IsFaultOf operations NoMemory = Unit {0}

-- this is so of the answer and none of the operations is wide, or there is such a fault
abbrev pub AnswersBy : {A : Type 0} → (A → Type 0) → List Operation → Result A OperationFault → Type 0
AnswersBy P operations result = MatchResult result (λ r. P r × (first_wide long_limit operations ≡ None)) (IsFaultOf operations)
