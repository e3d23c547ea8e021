-- Results in a row.
use Rattle.std.proofs.Common.{◌≡◌, ◌∙◌, Result, Ok, Err, ap}
use Rattle.ask_claims.specs.declared.fault.ClaimFault.{ClaimFault}
use Rattle.ask_claims.specs.Claims.{◌>>=◌}

-- what comes of a value, and of a fault
pub then_ok : {A B : Type 0} {r : Result A ClaimFault} {x : A} (f : A → Result B ClaimFault) {y : Result B ClaimFault} → r ≡ Ok x → f x ≡ y
    → r >>= f ≡ y
then_ok f {y} e h = ap (λ z. z >>= f) e ∙ h

-- a fault is handed on, whatever follows
pub then_err : {A B : Type 0} {r : Result A ClaimFault} {e : ClaimFault} (f : A → Result B ClaimFault) → r ≡ Err e → r >>= f ≡ Err e
then_err f h = ap (λ z. z >>= f) h
