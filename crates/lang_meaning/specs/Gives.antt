-- What the code's results and values stand for.
use Rattle.std.specs.Prelude.{◌≡◌, Result, Ok, Err}
use Rattle.lang_meaning.specs.declared.fault.ParseFault.{ParseFault}
use Rattle.lang_meaning.specs.declared.fault.ParseFault.TheVariants.{NoMemory}

-- The code answers what is wanted, seen through a view, unless it lacks memory.
abbrev pub Gives : {A B : Type 0} → (A → B) → Result A ParseFault → Result B ParseFault → Type 0
Gives view (Ok x) wanted = wanted ≡ Ok (view x)
Gives view (Err e) wanted = (e ≡ NoMemory → ⊥) → wanted ≡ Err e
