-- Results in a row.
use Rattle.std.proofs.Common.{◌≡◌, Result, Ok, Err, refl, sym, ap}
use Rattle.source_meaning.specs.declared.fault.FunctionFault.{FunctionFault}
use Rattle.source_meaning.specs.Results.{◌>>=◌}

-- two steps after a result are one step that takes both
pub bind_assoc : {A B C : Type 0} (r : Result A FunctionFault) (f : A → Result B FunctionFault) (g : B → Result C FunctionFault)
    → (r >>= f) >>= g ≡ r >>= λ x. f x >>= g
bind_assoc (Ok x) f g = refl
bind_assoc (Err e) f g = refl

-- steps that give the same of each value give the same of a result
pub bind_same : {A B : Type 0} (r : Result A FunctionFault) (f g : A → Result B FunctionFault) → ((x : A) → f x ≡ g x) → r >>= f ≡ r >>= g
bind_same (Ok x) f g h = h x
bind_same (Err e) f g h = refl

-- a step that does nothing
pub bind_ok : {A : Type 0} (r : Result A FunctionFault) (f : A → A) → ((x : A) → f x ≡ x) → r ≡ (r >>= λ x. Ok (f x))
bind_ok (Ok x) f h = ap Ok (sym (h x))
bind_ok (Err e) f h = refl

-- two steps after a result are one step where they are so after each value
pub bind_left : {A B C : Type 0} (r : Result A FunctionFault) (f : A → Result B FunctionFault) (g : B → Result C FunctionFault)
    (h : A → Result C FunctionFault) → ((x : A) → f x >>= g ≡ h x) → (r >>= f) >>= g ≡ r >>= h
bind_left (Ok x) f g h e = e x
bind_left (Err e) f g h p = refl
