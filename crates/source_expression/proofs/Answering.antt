-- Answers that are handed on.
use Rattle.std.proofs.Common.{◌≡◌, Result, Ok, Err, refl, sym, ap, subst}
use Rattle.std.specs.Result.{IsErrAnd}
use Rattle.source_meaning.specs.declared.fault.FunctionFault.{FunctionFault}
use Rattle.source_meaning.specs.declared.fault.FunctionFault.TheVariants as fault
use Rattle.source_meaning.specs.Results.{◌>>=◌}
use Rattle.source_reader.specs.declared.stop.Stop.{Stop}
use Rattle.source_reader.specs.declared.stop.Stop.TheVariants.{Fault, Unlike}
use Rattle.source_reader.specs.Answers.{Answers}

-- a fault is handed on
pub err_then : {A B C D : Type 0} (Is : A → B → Type 0) (As : C → D → Type 0) (s : Stop) (w : Result B FunctionFault)
    (f : B → Result D FunctionFault) → Answers Is (Err s) w → Answers As (Err s) (w >>= f)
err_then Is As (Fault e) w f h = λ n. ap (λ r. r >>= f) (h n)
err_then Is As Unlike w f h = absurd h

-- a fault of a reading is one whatever the reading stands for
pub err_as : {A B C : Type 0} (Is : A → B → Type 0) (As : C → B → Type 0) (s : Stop) (w : Result B FunctionFault)
    → Answers Is (Err s) w → Answers As (Err s) w
err_as Is As (Fault e) w h = h
err_as Is As Unlike w h = absurd h

-- what is answered of what comes behind a value is answered of both
pub ok_then : {B C D : Type 0} (As : C → D → Type 0) (r : Result C Stop) (w : Result B FunctionFault) (y : B)
    (f : B → Result D FunctionFault) → w ≡ Ok y → Answers As r (f y) → Answers As r (w >>= f)
ok_then As r w y f e h = subst (λ v. Answers As r (v >>= f)) (sym e) h

-- a fault that is met is answered
pub fault_then : {B C D : Type 0} (As : C → D → Type 0) (s : Stop) (e : FunctionFault) (w : Result B FunctionFault)
    (f : B → Result D FunctionFault) → s ≡ Fault e → Err e ≡ w → Answers As (Err s) (w >>= f)
fault_then As s e w f k h = subst (λ s. Answers As (Err s) (w >>= f)) (sym k) (λ n. ap (λ r. r >>= f) (sym h))

-- want of memory says nothing of what is wanted
pub memory : {C D : Type 0} (As : C → D → Type 0) (s : Stop) (w : Result D FunctionFault) → s ≡ Fault fault.NoMemory
    → Answers As (Err s) w
memory As s w k = subst (λ s. Answers As (Err s) w) (sym k) (λ n. absurd (n refl))

-- likewise of a fault that is handed on
pub handed : {A B C : Type 0} (Is : A → B → Type 0) (As : C → B → Type 0) (r : Result C Stop) (x : Stop) (w : Result B FunctionFault)
    → IsErrAnd r (λ s. s ≡ x) → Answers Is (Err x) w → Answers As r w
handed Is As (Ok v) x w h a = absurd h
handed Is As (Err s) x w h a = subst (λ s. Answers As (Err s) w) (sym h) (err_as Is As x w a)

-- and of one behind which more is wanted
pub handed_then : {A B C D : Type 0} (Is : A → B → Type 0) (As : C → D
    → Type 0) (r : Result C Stop) (x : Stop) (w : Result B FunctionFault)
    (f : B → Result D FunctionFault) → IsErrAnd r (λ s. s ≡ x) → Answers Is (Err x) w → Answers As r (w >>= f)
handed_then Is As (Ok v) x w f h a = absurd h
handed_then Is As (Err s) x w f h a = subst (λ s. Answers As (Err s) (w >>= f)) (sym h) (err_then Is As x w f a)

-- of a fault that is met
pub met_then : {B C D : Type 0} (As : C → D → Type 0) (r : Result C Stop) (e : FunctionFault) (w : Result B FunctionFault)
    (f : B → Result D FunctionFault) → IsErrAnd r (λ s. s ≡ Fault e) → Err e ≡ w → Answers As r (w >>= f)
met_then As (Ok v) e w f k h = absurd k
met_then As (Err s) e w f k h = fault_then As s e w f k h

-- and of want of memory
pub lacking : {C D : Type 0} (As : C → D → Type 0) (r : Result C Stop) (w : Result D FunctionFault)
    → IsErrAnd r (λ s. s ≡ Fault fault.NoMemory) → Answers As r w
lacking As (Ok v) w h = absurd h
lacking As (Err s) w h = memory As s w h

-- an answer is one of what it equals
pub answers_of : {C D : Type 0} (As : C → D → Type 0) (r s : Result C Stop) (w : Result D FunctionFault) → r ≡ s → Answers As s w
    → Answers As r w
answers_of As r s w e h = subst (λ r. Answers As r w) (sym e) h

-- so is one to what equals what is wanted
pub wanted_of : {C D : Type 0} (As : C → D → Type 0) (r : Result C Stop) (v w : Result D FunctionFault) → v ≡ w → Answers As r w
    → Answers As r v
wanted_of As r v w e h = subst (λ v. Answers As r v) (sym e) h

-- what holds beside is answered, too
pub beside : {C D : Type 0} (As : C → D → Type 0) (P : Type 0) (r : Result C Stop) (w : Result D FunctionFault) → P → Answers As r w
    → Answers (λ v x. As v x × P) r w
beside As P (Ok v) w p h = (h.0, h.1, (h.2, p))
beside As P (Err (Fault e)) w p h = h
beside As P (Err Unlike) w p h = h

-- a weaker answer
pub weaker : {C D : Type 0} (As Bs : C → D → Type 0) (r : Result C Stop) (w : Result D FunctionFault) → ((v : C) (x : D) → As v x → Bs v x)
    → Answers As r w → Answers Bs r w
weaker As Bs (Ok v) w f h = (h.0, h.1, f v h.0 h.2)
weaker As Bs (Err (Fault e)) w f h = h
weaker As Bs (Err Unlike) w f h = h
