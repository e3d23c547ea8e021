-- What a reading answers, given what the definitions answer.
use Rattle.std.specs.Prelude.{◌≡◌, Result, Ok, Err}
use Rattle.source_meaning.specs.declared.fault.FunctionFault.{FunctionFault}
use Rattle.source_meaning.specs.declared.fault.FunctionFault.TheVariants.{NoMemory}
use Rattle.source_reader.specs.declared.stop.Stop.{Stop}
use Rattle.source_reader.specs.declared.stop.Stop.TheVariants.{Fault, Unlike}

-- the code answers a thing that stands for what is wanted, or the fault that is, unless memory is lacking; that the tokens are unlike what
-- is read it never answers
abbrev pub Answers : {A B : Type 0} → (A → B → Type 0) → Result A Stop → Result B FunctionFault → Type 0
Answers {B} Is (Ok x) wanted = (y : B) × (wanted ≡ Ok y) × Is x y
Answers Is (Err (Fault e)) wanted = (e ≡ NoMemory → ⊥) → wanted ≡ Err e
Answers Is (Err Unlike) wanted = ⊥
