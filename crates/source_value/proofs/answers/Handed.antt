-- Answers that are handed on, and choices of what is wanted.
use Rattle.std.proofs.Common.{◌≡◌, ◌∙◌, Bool, true, false, cond, Result, Ok, Err, sym, subst}
use Rattle.std.specs.Result.{IsErrAnd}
use Rattle.source_value.specs.declared.fault.OperationFault.{OperationFault}
use Rattle.source_value.specs.declared.fault.OperationFault.TheVariants.{Big, NoMemory}
use Rattle.source_value.specs.Answers.{Answers}

-- a fault that is handed on is the one that was met
pub handed : {A B : Type 0} (Is : A → B → Type 0) (fits : B → Bool) (r : Result A OperationFault) (x : OperationFault) (wanted : B)
    → IsErrAnd r (λ y. y ≡ x) → (x ≡ Big → fits wanted ≡ false) → Answers Is fits r wanted
handed Is fits (Ok a) x wanted h f = absurd h
handed Is fits (Err e) x wanted h f = λ n. f (sym h ∙ n)

-- want of memory says nothing of what is wanted
pub no_memory : {A B : Type 0} (Is : A → B → Type 0) (fits : B → Bool) (r : Result A OperationFault) (wanted : B)
    → IsErrAnd r (λ y. y ≡ NoMemory) → Answers Is fits r wanted
no_memory Is fits (Ok a) wanted h = absurd h
no_memory Is fits (Err e) wanted h = λ n. absurd cc

-- an answer to what is wanted in another form
pub wanted_as : {A B : Type 0} (Is : A → B → Type 0) (fits : B → Bool) (r : Result A OperationFault) (w v : B) → w ≡ v → Answers Is fits r w
    → Answers Is fits r v
wanted_as Is fits r w v e h = subst (λ x. Answers Is fits r x) e h

-- a choice is its first side where the test is true, and its second where it is false
pub when_true : {A : Type 0} (P : A → Type 0) (b : Bool) (x y : A) → b ≡ true → P x → P (cond b x y)
when_true P true x y e h = h
when_true P false x y e h = absurd cc

-- the other side
pub when_false : {A : Type 0} (P : A → Type 0) (b : Bool) (x y : A) → b ≡ false → P y → P (cond b x y)
when_false P true x y e h = absurd cc
when_false P false x y e h = h

-- an equation by way of another
pub along : {A : Type 0} (x y z : A) → y ≡ z → x ≡ y → x ≡ z
along x y z e f = f ∙ e
