-- Answers of the field that are pushed or passed on.
use Rattle.std.specs.Prelude.{◌≡◌, ℕ, List, Result, Ok, Err}
use Rattle.base_numbers.specs.Rational.{ℚ}
use Rattle.base_fractions.specs.declared.wide.Wide.{Wide}
use Rattle.lp_dictionary.specs.declared.tableau.PivotFault.{PivotFault}
use Rattle.lp_dictionary.specs.declared.tableau.PivotFault.TheVariants as fault
use Rattle.lp_dictionary.specs.declared.entry.Entry.{Entry}
use Rattle.lp_dictionary.specs.Entries.{pushed}

-- the answer is a value, which was pushed
abbrev pub Pushes : {F : Type 0} → (F → ℚ) → List (Entry F) → ℕ → Result F (Wide F) → List (Entry F) → Type 0
Pushes m old k (Ok x) new = new ≡ pushed m old k x
Pushes m old k (Err w) new = ⊥

-- the fault is the answer's, if it is not want of memory
abbrev pub PassesOn : {F : Type 0} → Result F (Wide F) → PivotFault F → Type 0
PassesOn answer (fault.Wide w) = answer ≡ Err w
PassesOn answer fault.NoMemory = Unit {0}
