-- Results with the fault of a text.
use Rattle.std.specs.Prelude.{Result, Ok, Err}
use Rattle.lang_meaning.specs.declared.fault.ParseFault.{ParseFault}

-- what comes next, unless there was a fault
infixl 10 ◌>>=◌
abbrev pub ◌>>=◌ : {A B : Type 0} → Result A ParseFault → (A → Result B ParseFault) → Result B ParseFault
(Ok x) >>= f = f x
(Err e) >>= f = Err e
