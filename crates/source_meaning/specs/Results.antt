-- Results with the fault of a function.
use Rattle.std.specs.Prelude.{Bool, Result, Ok, Err, if◌then◌else◌}
use Rattle.source_meaning.specs.declared.fault.FunctionFault.{FunctionFault}

-- what comes next, unless there was a fault
infixl 10 ◌>>=◌
abbrev pub ◌>>=◌ : {A B : Type 0} → Result A FunctionFault → (A → Result B FunctionFault) → Result B FunctionFault
(Ok x) >>= f = f x
(Err e) >>= f = Err e

-- this, where it may be, and else the fault
abbrev pub provided : {A : Type 0} → Bool → FunctionFault → A → Result A FunctionFault
provided may fault x = if may then Ok x else Err fault
