-- What is answered where a list is filled that has no fault.
use Rattle.std.proofs.Common.{Result, Ok, Err, OnOk, refl}
use Rattle.std.specs.Result.{IsErrAnd}
use Rattle.source_reader.specs.Answers.{Answers}
use Rattle.source_reader.specs.declared.stop.Stop.{Stop}
use Rattle.source_reader.specs.declared.stop.Stop.TheVariants.{Fault, Unlike}
use Rattle.source_statement.specs.Headed.{no_fault}

-- a list was filled, and a `;` passed
pub pushed_answer : {B : Type 0} (Is : Unit {0} → B → Type 0) (r : Result (Unit {0}) Stop) (P E : Type 0) (y : B) → OnOk r P
    → Answers {A = Unit {0}} {B = Unit {0}} (λ _ _. E) r no_fault → (P → E → Is tt y) → Answers Is r (Ok y)
pushed_answer Is (Ok x) P E y p a h = (y, refl, h p a.2)
pushed_answer Is (Err (Fault e)) P E y p a h = λ n. absurd (let k = a n in cc)
pushed_answer Is (Err Unlike) P E y p a h = a

-- what is so is so where there is no fault
pub on_ok : {A : Type 0} (r : Result A Stop) {P : Type 0} → P → OnOk r P
on_ok (Ok x) p = p
on_ok (Err x) p = tt

-- where there is a fault nothing is asked
pub err_on : {A B : Type 0} (r : Result A B) (Q : B → Type 0) (P : Type 0) → IsErrAnd r Q → OnOk r P
err_on (Ok x) Q P h = absurd h
err_on (Err x) Q P h = tt
