-- Results in a row.
use Rattle.std.proofs.Common.{◌≡◌, ◌∙◌, Result, Ok, Err, ap}
use Rattle.source_meaning.specs.declared.fault.FunctionFault.{FunctionFault}
use Rattle.source_meaning.specs.Results.{◌>>=◌}

-- what comes of a value, and of a fault
pub then_ok : {A B : Type 0} {r : Result A FunctionFault} {x : A} (f : A → Result B FunctionFault) {y : Result B FunctionFault}
    → r ≡ Ok x → f x ≡ y → r >>= f ≡ y
then_ok f {y} e h = ap (λ z. z >>= f) e ∙ h

-- a fault stays, whatever is to come next
pub then_err : {A B : Type 0} {r : Result A FunctionFault} {e : FunctionFault} (f : A → Result B FunctionFault) → r ≡ Err e
    → r >>= f ≡ Err e
then_err f h = ap (λ z. z >>= f) h
