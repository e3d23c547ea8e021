-- What follows from what the code answers.
use Rattle.std.proofs.Common.{◌≡◌, ◌∙◌, Result, Ok, Err, sym, ap, subst}
use Rattle.source_meaning.specs.declared.fault.FunctionFault.{FunctionFault}
use Rattle.source_meaning.specs.declared.fault.FunctionFault.TheVariants.{NoMemory}
use Rattle.source_meaning.specs.Results.{◌>>=◌}
use Rattle.std.specs.Result.{IsErrAnd}
use Rattle.source_names.specs.Gives.{Gives}
use Rattle.source_reader.specs.Answers.{Answers}
use Rattle.source_reader.specs.declared.stop.Stop.{Stop}
use Rattle.source_reader.specs.declared.stop.Stop.TheVariants.{Fault, Unlike}

-- where memory lacks anything is answered
pub no_memory : {A B : Type 0} (Is : A → B → Type 0) (s : Stop) (w : Result B FunctionFault) → s ≡ Fault NoMemory → Answers Is (Err s) w
no_memory Is (Fault e) w h = λ n. absurd (n cc)
no_memory Is Unlike w h = cc

-- a fault is that of all that comes behind it
pub fault_then : {A B C D : Type 0} (Is : A → B → Type 0) (Was : C → D → Type 0) (s t : Stop) (w : Result B FunctionFault)
    (f : B → Result D FunctionFault) → t ≡ s → Answers Is (Err s) w → Answers Was (Err t) (w >>= f)
fault_then Is Was (Fault e) (Fault d) w f h a =
    λ n. let g : d ≡ e = cc in ap (λ r. r >>= f) (a (λ m. n (g ∙ m))) ∙ ap Err (sym g)
fault_then Is Was (Fault e) Unlike w f h a = cc
fault_then Is Was Unlike t w f h a = absurd a

-- the answer of what comes behind a value
pub ok_then : {A B C D : Type 0} (Is : A → B → Type 0) (Was : C → D → Type 0) (x : A) (r : Result C Stop) (w : Result B FunctionFault)
    (f : B → Result D FunctionFault) → Answers Is (Ok x) w → ((y : B) → Is x y → Answers Was r (f y)) → Answers Was r (w >>= f)
ok_then Is Was x r w f a h = let P : Result _ FunctionFault → Type 0 = λ v. Answers Was r (v >>= f) in subst P (sym a.1) (h a.0 a.2)

-- the same of calls that answer faults
pub given_fault : {A B C D : Type 0} (view : A → B) (Was : C → D → Type 0) (e : FunctionFault) (t : Stop) (w : Result B FunctionFault)
    (f : B → Result D FunctionFault) → t ≡ Fault e → Gives view (Err e) w → Answers Was (Err t) (w >>= f)
given_fault view Was e (Fault d) w f h a = λ n. let g : d ≡ e = cc in ap (λ r. r >>= f) (a (λ m. n (g ∙ m))) ∙ ap Err (sym g)
given_fault view Was e Unlike w f h a = cc

-- and of their values
pub given_then : {A B C D : Type 0} (view : A → B) (Was : C → D → Type 0) (x : A) (r : Result C Stop) (w : Result B FunctionFault)
    (f : B → Result D FunctionFault) → Gives view (Ok x) w → Answers Was r (f (view x)) → Answers Was r (w >>= f)
given_then view Was x r w f a h = let P : Result _ FunctionFault → Type 0 = λ v. Answers Was r (v >>= f) in subst P (sym a) h

-- an answer of one thing is an answer of what that is
pub answers_so : {A B D : Type 0} (Is : A → B → Type 0) (Was : A → D → Type 0) (r : Result A Stop) (w : Result B FunctionFault)
    (v : Result D FunctionFault) (g : B → D) → v ≡ (w >>= λ y. Ok (g y)) → ((x : A) (y : B) → Is x y → Was x (g y)) → Answers Is r w
    → Answers Was r v
answers_so {A} Is Was (Ok x) w v g e h a =
    (g a.0, e ∙ ap (λ r. r >>= λ y. Ok (g y)) a.1, h x a.0 a.2)
answers_so Is Was (Err (Fault d)) w v g e h a = λ n. e ∙ ap (λ r. r >>= λ y. Ok (g y)) (a n)
answers_so Is Was (Err Unlike) w v g e h a = a

-- ---- results that `?` hands on
-- memory lacks
pub err_memory : {A B : Type 0} (Is : A → B → Type 0) (r : Result A Stop) (w : Result B FunctionFault) → IsErrAnd r
    (λ s. s ≡ Fault NoMemory)
    → Answers Is r w
err_memory Is (Ok x) w h = absurd h
err_memory Is (Err s) w h = no_memory Is s w h

-- the fault of what was read first
pub err_then : {A B C D : Type 0} (Is : A → B → Type 0) (Was : C → D → Type 0) (r : Result C Stop) (s : Stop) (w : Result B FunctionFault)
    (f : B → Result D FunctionFault) → IsErrAnd r (λ t. t ≡ s) → Answers Is (Err s) w → Answers Was r (w >>= f)
err_then Is Was (Ok x) s w f h a = absurd h
err_then Is Was (Err t) s w f h a = fault_then Is Was s t w f h a

-- the fault of a call
pub err_given : {A B C D : Type 0} (view : A → B) (Was : C → D → Type 0) (r : Result C Stop) (e : FunctionFault)
    (w : Result B FunctionFault)
    (f : B → Result D FunctionFault) → IsErrAnd r (λ t. t ≡ Fault e) → Gives view (Err e) w → Answers Was r (w >>= f)
err_given view Was (Ok x) e w f h a = absurd h
err_given view Was (Err t) e w f h a = given_fault view Was e t w f h a

-- the same fault alone
pub err_same : {A B C : Type 0} (Is : A → B → Type 0) (Was : C → B → Type 0) (r : Result C Stop) (s : Stop) (w : Result B FunctionFault)
    → IsErrAnd r (λ t. t ≡ s) → Answers Is (Err s) w → Answers Was r w
err_same Is Was (Ok x) s w h a = absurd h
err_same Is Was (Err (Fault d)) (Fault e) w h a = λ n. let g : d ≡ e = cc in a (λ m. n (g ∙ m)) ∙ ap Err (sym g)
err_same Is Was (Err Unlike) (Fault e) w h a = cc
err_same Is Was (Err t) Unlike w h a = absurd a

-- where the definitions have no fault, memory lacks
pub err_never : {A B C D : Type 0} (Is : A → B → Type 0) (Was : C → D → Type 0) (r : Result C Stop) (s : Stop) (y : B)
    (w : Result D FunctionFault)
    → IsErrAnd r (λ t. t ≡ s) → Answers Is (Err s) (Ok y) → Answers Was r w
err_never Is Was (Ok x) s y w h a = absurd h
err_never Is Was (Err (Fault d)) (Fault e) y w h a = λ n. let g : d ≡ e = cc in absurd (let k = a (λ m. n (g ∙ m)) in cc)
err_never Is Was (Err Unlike) (Fault e) y w h a = cc
err_never Is Was (Err t) Unlike y w h a = absurd a

-- what is answered, less is
pub weaker : {A B : Type 0} (Is Was : A → B → Type 0) (r : Result A Stop) (w : Result B FunctionFault) → ((x : A) (y : B) → Is x y
    → Was x y)
    → Answers Is r w → Answers Was r w
weaker Is Was (Ok x) w h a = (a.0, a.1, h x a.0 a.2)
weaker Is Was (Err (Fault e)) w h a = a
weaker Is Was (Err Unlike) w h a = a

-- an answer that is a fault
pub err_cases : {A B : Type 0} (Is : A → B → Type 0) (r : Result A Stop) (s : Stop) (w : Result B FunctionFault) → IsErrAnd r (λ t. t ≡ s)
    → ((t : Stop) → t ≡ s → Answers Is (Err t) w) → Answers Is r w
err_cases Is (Ok x) s w h f = absurd h
err_cases Is (Err t) s w h f = f t h
