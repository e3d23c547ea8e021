-- What the code answers of a file.
use Rattle.std.specs.Prelude.{◌≡◌, ℕ, List, Result, Ok, Err, length}
use Rattle.lang_tree.specs.declared.program.Program.{Program}
use Rattle.source_tree.specs.Statements.{Statements}
use Rattle.source_core.specs.Core.{core_in}
use Rattle.source_meaning.specs.declared.fault.FunctionFault as function
use Rattle.source_file.specs.Meaning.{Answer}
use Rattle.source_file.specs.declared.fault.SourceFault.{SourceFault}
use Rattle.source_file.specs.declared.fault.SourceFault.TheVariants.{NoMemory}
use Rattle.base_integers.specs.declared.integers.Integers.{Integers}

-- The program is the core of what is meant; or the fault is, unless memory is lacking.
abbrev pub Gives : (integers : Integers) → Result Program SourceFault → Answer → Type 0
Gives integers (Ok p) wanted = (body : Statements) × (wanted ≡ Ok (p.names, body)) × (p.body ≡ core_in integers (length p.names) body)
Gives integers (Err e) wanted = (e ≡ NoMemory → ⊥) → wanted ≡ Err e

-- Unless memory is lacking, this is told: the program as the core of what it is, or the fault.
abbrev pub Tells : (integers : Integers) → Result Program SourceFault → (Answer → Type 0) → Type 0
Tells integers (Ok p) Means = (body : Statements) × Means (Ok (p.names, body)) × (p.body ≡ core_in integers (length p.names) body)
Tells integers (Err e) Means = (e ≡ NoMemory → ⊥) → Means (Err e)

-- What is told of a function alone is what is meant.
abbrev pub FunctionGives : (integers : Integers) → Result Program function.FunctionFault
    → Result (List (List ℕ) × Statements) function.FunctionFault → Type 0
FunctionGives integers (Ok p) wanted =
    (body : Statements) × (wanted ≡ Ok (p.names, body)) × (p.body ≡ core_in integers (length p.names) body)
FunctionGives integers (Err e) wanted = (e ≡ function.TheVariants.NoMemory → ⊥) → wanted ≡ Err e

-- The names are the ones that are meant; or the fault is, unless memory is lacking.
abbrev pub NamesGive : Result (List (List ℕ)) SourceFault → Result (List (List ℕ)) SourceFault → Type 0
NamesGive (Ok names) wanted = wanted ≡ Ok names
NamesGive (Err e) wanted = (e ≡ NoMemory → ⊥) → wanted ≡ Err e

-- Unless memory is lacking, the names are told, or the fault is.
abbrev pub NamesTell : Result (List (List ℕ)) SourceFault → (Result (List (List ℕ)) SourceFault → Type 0) → Type 0
NamesTell (Ok names) Are = Are (Ok names)
NamesTell (Err e) Are = (e ≡ NoMemory → ⊥) → Are (Err e)
