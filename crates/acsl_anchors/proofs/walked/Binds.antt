-- What was met on the way to a result.
use Rattle.std.proofs.Common.{◌≡◌, Bool, true, false, Result, Ok, Err, refl}
use Rattle.source_meaning.specs.declared.fault.FunctionFault.{FunctionFault}
use Rattle.source_meaning.specs.Results.{◌>>=◌, provided}

-- a value that was met, and what came of it
pub record Met {A B : Type 0} (r : Result A FunctionFault) (f : A → Result B FunctionFault) (y : B) : Type 0 where
  -- the value that was met
  pub value : A
  -- the first result is that value
  pub was : r ≡ Ok value
  -- what goes on from that value gives the last result
  pub gave : f value ≡ Ok y

-- A result that is a value was made of one.
pub met : {A B : Type 0} (r : Result A FunctionFault) (f : A → Result B FunctionFault) (y : B) → r >>= f ≡ Ok y → Met r f y
met (Ok x) f y h = record { value = x; was = refl; gave = h }
met (Err e) f y h = cc

-- the result is this value
abbrev pub IsOk : {A : Type 0} → Result A FunctionFault → A → Type 0
IsOk r y = r ≡ Ok y

-- then it is the value that was given
pub ok_is : {A : Type 0} (x y : A) → IsOk (Ok x) y → x ≡ y
ok_is x y h = cc

-- so it is where it was given if it may be
pub provided_is : {A : Type 0} (b : Bool) (e : FunctionFault) (x y : A) → IsOk (provided b e x) y → x ≡ y
provided_is true e x y h = cc
provided_is false e x y h = cc
