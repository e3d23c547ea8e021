-- Faults of operations at their places.
use Rattle.std.specs.Prelude.{ℕ, Result, Ok, Err}
use Rattle.source_meaning.specs.declared.fault.FunctionFault.TheVariants as fault
use Rattle.source_value.specs.declared.fault.OperationFault.{OperationFault}
use Rattle.source_value.specs.declared.fault.OperationFault.TheVariants as operation
use Rattle.source_reader.specs.declared.stop.Stop.{Stop}
use Rattle.source_reader.specs.declared.stop.Stop.TheVariants.{Fault}

-- the result of an operation at this place
abbrev pub placed : {A : Type 0} → (at : ℕ) → Result A OperationFault → Result A Stop
placed at (Ok x) = Ok x
placed at (Err operation.Big) = Err (Fault (fault.BigNumber at))
placed at (Err operation.NoMemory) = Err (Fault fault.NoMemory)
