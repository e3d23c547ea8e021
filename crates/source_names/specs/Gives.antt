-- What the code's results stand for.
use Rattle.std.specs.Prelude.{◌≡◌, Result, Ok, Err}
use Rattle.source_meaning.specs.declared.fault.FunctionFault.{FunctionFault}
use Rattle.source_meaning.specs.declared.fault.FunctionFault.TheVariants.{NoMemory}

-- a result, seen through a view
abbrev pub seen : {A B : Type 0} → (A → B) → Result A FunctionFault → Result B FunctionFault
seen view (Ok x) = Ok (view x)
seen view (Err e) = Err e

-- The code answers what is wanted, seen through a view, unless it lacks memory.
abbrev pub Gives : {A B : Type 0} → (A → B) → Result A FunctionFault → Result B FunctionFault → Type 0
Gives view (Ok x) wanted = wanted ≡ Ok (view x)
Gives view (Err e) wanted = (e ≡ NoMemory → ⊥) → wanted ≡ Err e
