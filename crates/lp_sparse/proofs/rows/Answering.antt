-- Answers of the field that were pushed or passed on.
use Rattle.std.proofs.Common.{◌≡◌, ℕ, ℤ, List, Some, None, Result, Ok, Err, subst}
use Rattle.base_numbers.specs.Rational.{ℚ}
use Rattle.base_fractions.specs.declared.wide.Wide.{Wide}
use Rattle.base_fractions.specs.Operation.{Operation, first_wide, operation_of, Answers}
use Rattle.lp_dictionary.specs.declared.tableau.PivotFault.{PivotFault}
use Rattle.lp_dictionary.specs.declared.tableau.PivotFault.TheVariants as fault
use Rattle.lp_dictionary.specs.Faults.{Refuses}
use Rattle.lp_dictionary.specs.declared.entry.Entry.{Entry}
use Rattle.lp_dictionary.specs.Entries.{pushed}
use Rattle.lp_sparse.specs.Faults.{Pushes, PassesOn}

module _ {F : Type 0} (m : F → ℚ) (L : ℤ) where
  -- the value that was pushed
  pub pushed_value : (v : ℚ) (os : List Operation) (old new : List (Entry F)) (k : ℕ) (answer : Result F (Wide F)) → Answers m L v os answer
      → Pushes m old k answer new →
      (x : F) × (m x ≡ v) × (first_wide L os ≡ None) × (new ≡ pushed m old k x)
  pushed_value v os old new k (Ok x) a p = (x, a.0, a.1, p)
  pushed_value v os old new k (Err w) a p = absurd p

  -- the fault that was passed on
  pub passed_fault : (v : ℚ) (os : List Operation) (answer : Result F (Wide F)) (e : PivotFault F) → Answers m L v os answer
      → PassesOn answer e → Refuses m L os e
  passed_fault v os answer (fault.Wide w) a p = subst (Answers m L v os) p a
  passed_fault v os answer fault.NoMemory a p = tt

  -- the fault of other operations with the same first that is wide
  pub fault_of_more : (os ps : List Operation) (e : PivotFault F) → ((o : Operation) → first_wide L os ≡ Some o → first_wide L ps ≡ Some o)
      → Refuses m L os e → Refuses m L ps e
  fault_of_more os ps (fault.Wide w) h r = h (operation_of m w) r
  fault_of_more os ps fault.NoMemory h r = tt
