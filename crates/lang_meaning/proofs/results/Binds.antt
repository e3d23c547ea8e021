-- Results in a row.
use Rattle.std.proofs.Common.{◌≡◌, ◌∙◌, Result, Ok, Err, refl, sym, ap}
use Rattle.std.specs.Result.{IsErrAnd}
use Rattle.lang_meaning.specs.Gives.{Gives}
use Rattle.lang_meaning.specs.declared.fault.ParseFault.{ParseFault}
use Rattle.lang_meaning.specs.declared.fault.ParseFault.TheVariants.{NoMemory}
use Rattle.lang_meaning.specs.Results.{◌>>=◌}

-- two steps after a result are one step that takes both
pub bind_assoc : {A B C : Type 0} (r : Result A ParseFault) (f : A → Result B ParseFault) (g : B → Result C ParseFault)
    → (r >>= f) >>= g ≡ r >>= λ x. f x >>= g
bind_assoc (Ok x) f g = refl
bind_assoc (Err e) f g = refl

-- steps that give the same of each value give the same of a result
pub bind_same : {A B : Type 0} (r : Result A ParseFault) (f g : A → Result B ParseFault) → ((x : A) → f x ≡ g x) → r >>= f ≡ r >>= g
bind_same (Ok x) f g h = h x
bind_same (Err e) f g h = refl

-- both sides go on from the same result
pub bind_both : {A B C D : Type 0} (r : Result A ParseFault) (f : A → Result B ParseFault) (g : B → Result D ParseFault) (h : A
    → Result C ParseFault) (i : C → Result D ParseFault) → ((x : A) → f x >>= g ≡ h x >>= i) → (r >>= f) >>= g ≡ (r >>= h) >>= i
bind_both (Ok x) f g h i e = e x
bind_both (Err e) f g h i p = refl

-- two steps after a result are one step where they are so after each value
pub bind_left : {A B C : Type 0} (r : Result A ParseFault) (f : A → Result B ParseFault) (g : B → Result C ParseFault)
    (h : A → Result C ParseFault)
    → ((x : A) → f x >>= g ≡ h x) → (r >>= f) >>= g ≡ r >>= h
bind_left (Ok x) f g h e = e x
bind_left (Err e) f g h p = refl

-- one step after a result is two steps where it is so after each value
pub bind_right : {A B C : Type 0} (r : Result A ParseFault) (h : A → Result C ParseFault) (f : A → Result B ParseFault)
    (g : B → Result C ParseFault)
    → ((x : A) → h x ≡ f x >>= g) → r >>= h ≡ (r >>= f) >>= g
bind_right (Ok x) h f g e = e x
bind_right (Err e) h f g p = refl

-- what comes of a value, and of a fault
pub then_ok : {A B : Type 0} {r : Result A ParseFault} {x : A} (f : A → Result B ParseFault) {y : Result B ParseFault} → r ≡ Ok x → f x ≡ y
    → r >>= f ≡ y
then_ok f {y} e h = ap (λ z. z >>= f) e ∙ h

-- a fault stays, whatever is to come next
pub then_err : {A B : Type 0} {r : Result A ParseFault} {e : ParseFault} (f : A → Result B ParseFault) → r ≡ Err e → r >>= f ≡ Err e
then_err f h = ap (λ z. z >>= f) h

-- A fault that is handed on is the one that was met.
pub handed_on : {A B : Type 0} (view : A → B) (r : Result A ParseFault) (x : ParseFault) (wanted : Result B ParseFault)
    → IsErrAnd r (λ y. y ≡ x)
    → ((x ≡ NoMemory → ⊥) → wanted ≡ Err x) → Gives view r wanted
handed_on view (Ok a) x wanted h f = absurd h
handed_on view (Err e) x wanted h f = λ n. f (λ m. n (h ∙ m)) ∙ ap Err (sym h)
