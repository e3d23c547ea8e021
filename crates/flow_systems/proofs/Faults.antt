-- Operations in parts: the first part in which one is wide decides.
use Rattle.std.proofs.Common.{◌≡◌, ◌∙◌, List, ◌++◌, None, Result, Ok, Err}
use Rattle.std.specs.Prelude.{IfOk, IfErr, OnOk}
use Rattle.base_numbers.specs.Rational.{ℚ}
use Rattle.base_fractions.specs.Fits.{long_limit}
use Rattle.base_fractions.specs.Operation.{Operation, first_wide, operation_of}
use Rattle.flow_systems.specs.declared.fault.Fault.TheVariants.{Wide, NoMemory}
use Rattle.flow_systems.specs.Faults.{OperationFault, IsFaultOf, AnswersBy}
use Rattle.flow_systems.proofs.Widths.{first_wide_later, first_wide_sooner}

-- a fault in the first part
pub sooner : (os ps : List Operation) (f : OperationFault) → IsFaultOf os f → IsFaultOf (os ++ ps) f
sooner os ps (Wide w) h = first_wide_sooner long_limit os ps (operation_of (λ (q : ℚ). q) w) h
sooner os ps NoMemory h = tt

-- and after a part in which none is wide
pub later : (os ps : List Operation) (f : OperationFault) → first_wide long_limit os ≡ None → IsFaultOf ps f → IsFaultOf (os ++ ps) f
later os ps (Wide w) n h = first_wide_later long_limit os ps n ∙ h
later os ps NoMemory n h = tt

-- after a part in which no operation is wide, the answer by the later operations is the answer by all
pub answers_later : {A : Type 0} (P : A → Type 0) (os ps : List Operation) (res : Result A OperationFault) → first_wide long_limit os ≡ None
    → AnswersBy P ps res → AnswersBy P (os ++ ps) res
answers_later P os ps (Ok r) n h = (h.0, first_wide_later long_limit os ps n ∙ h.1)
answers_later P os ps (Err f) n h = later os ps f n h

-- what is so of an answer, and of a fault
module _ {A : Type 0} (P : A → Type 0) (os : List Operation) where
  -- an answer by operations that is a value has what is said of it
  pub of_ok : (res : Result A OperationFault) → AnswersBy P os res → IfOk res P
  of_ok (Ok r) h = h.0
  of_ok (Err f) h = tt

  -- where there is a value, none of the operations is wide
  pub none_wide : (res : Result A OperationFault) → AnswersBy P os res → OnOk res (first_wide long_limit os ≡ None)
  none_wide (Ok r) h = h.1
  none_wide (Err f) h = tt

  -- where there is a fault, it is that of the first operation that is wide, or want of memory
  pub of_fault : (res : Result A OperationFault) → AnswersBy P os res → IfErr res (IsFaultOf os)
  of_fault (Ok r) h = tt
  of_fault (Err f) h = h
