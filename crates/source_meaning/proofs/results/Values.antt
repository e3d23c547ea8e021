-- What holds of the value of a result, if it has one.
use Rattle.std.proofs.Common.{◌≡◌, Bool, true, false, IsTrue, Result, Ok, Err, refl, subst}
use Rattle.source_meaning.specs.declared.fault.FunctionFault.{FunctionFault}
use Rattle.source_meaning.specs.Results.{◌>>=◌, provided}

-- what holds of a value, if there is one
abbrev pub OnValue : {A : Type 0} → (A → Type 0) → Result A FunctionFault → Type 0
OnValue P (Ok x) = P x
OnValue P (Err e) = Unit {0}

-- where P holds of a result's value, and Q of what is made of each value with P, Q holds of what is made of the result
pub on_bind : {A B : Type 0} (P : A → Type 0) (Q : B → Type 0) (r : Result A FunctionFault) (f : A → Result B FunctionFault)
    → OnValue P r → ((x : A) → P x → OnValue Q (f x)) → OnValue Q (r >>= f)
on_bind P Q (Ok x) f h g = g x h
on_bind P Q (Err e) f h g = tt

-- what may be has what holds of it where the test is true
pub on_provided : {A : Type 0} (P : A → Type 0) (may : Bool) (fault : FunctionFault) (x : A) → (IsTrue may → P x)
    → OnValue P (provided may fault x)
on_provided P true fault x h = h refl
on_provided P false fault x h = tt

-- what holds of a value gives what follows from it
pub on_weaker : {A : Type 0} (P Q : A → Type 0) (r : Result A FunctionFault) → OnValue P r → ((x : A) → P x → Q x) → OnValue Q r
on_weaker P Q (Ok x) h g = g x h
on_weaker P Q (Err e) h g = tt

-- two things that hold of a value hold of it together
pub on_both : {A : Type 0} (P Q : A → Type 0) (r : Result A FunctionFault) → OnValue P r → OnValue Q r → OnValue (λ x. P x × Q x) r
on_both P Q (Ok x) h k = (h, k)
on_both P Q (Err e) h k = tt

-- what holds of the value of a result holds of what it is
pub value_of : {A : Type 0} (P : A → Type 0) (r : Result A FunctionFault) (x : A) → OnValue P r → r ≡ Ok x → P x
value_of P (Ok y) x h e = let k : y ≡ x = cc in subst P k h
value_of P (Err f) x h e = cc

-- what holds of a value where something is given holds of it so, too
pub on_given : {A : Type 0} (F : Type 0) (P : A → Type 0) (r : Result A FunctionFault) → (F → OnValue P r) → OnValue (λ x. F → P x) r
on_given F P (Ok x) h = h
on_given F P (Err e) h = tt
