-- What a refused pivot answers.
use Rattle.std.specs.Prelude.{◌≡◌, ℤ, List, Some}
use Rattle.base_numbers.specs.Rational.{ℚ}
use Rattle.lp_dictionary.specs.declared.tableau.PivotFault.{PivotFault}
use Rattle.lp_dictionary.specs.declared.tableau.PivotFault.TheVariants.{Wide, NoMemory}
use Rattle.base_fractions.specs.Operation.{Operation, first_wide, operation_of}

-- the fault carries the first of the operations that is wide, if it is not want of memory
abbrev pub Refuses : {F : Type 0} → (F → ℚ) → ℤ → List Operation → PivotFault F → Type 0
Refuses m limit os (Wide w) = first_wide limit os ≡ Some (operation_of m w)
Refuses m limit os NoMemory = Unit {0}

-- the fault is not want of memory
abbrev pub IsWide : {F : Type 0} → PivotFault F → Type 0
IsWide (Wide w) = Unit {0}
IsWide NoMemory = ⊥
