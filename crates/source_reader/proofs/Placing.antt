-- Faults of operations at their places.
use Rattle.std.proofs.Common.{◌≡◌, ℕ, Bool, true, Result, Ok, Err, refl, ap}
use Rattle.source_meaning.specs.declared.fault.FunctionFault.TheVariants.{BigNumber}
use Rattle.source_meaning.specs.Results.{provided}
use Rattle.source_value.specs.declared.fault.OperationFault.{OperationFault}
use Rattle.source_value.specs.declared.fault.OperationFault.TheVariants as operation
use Rattle.source_value.specs.Answers as value
use Rattle.source_reader.specs.Answers.{Answers}
use Rattle.source_reader.specs.Placed.{placed}

-- the result of an operation at its place: what is wanted, where it is in range, and else the fault
pub placed_answers : {A B D : Type 0} (Is : A → B → Type 0) (fits : B → Bool) (g : D → B) (r : Result A OperationFault) (at : ℕ) (x : D)
    → value.Answers Is fits r (g x) → ((v : A) → Is v (g x) → fits (g x) ≡ true)
    → Answers (λ v z. Is v (g z)) (placed at r) (provided (fits (g x)) (BigNumber at) x)
placed_answers Is fits g (Ok v) at x h sure = (x, ap (λ b. provided b (BigNumber at) x) (sure v h), h)
placed_answers Is fits g (Err operation.Big) at x h sure = λ n. ap (λ b. provided b (BigNumber at) x) (h refl)
placed_answers Is fits g (Err operation.NoMemory) at x h sure = λ n. absurd (n refl)
