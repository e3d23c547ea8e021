-- What the scans of a table find.
use Rattle.std.specs.Prelude.{◌≡◌, ℕ, ◌<◌, ◌≤◌, ◌++◌, ◌⊎◌, ℤ, Option, Some, None}
use Rattle.base_numbers.specs.Rational.{ℚ, zero_ℚ, neg_ℚ, ◌/ℚ◌, ◌≤ℚ◌, ◌<ℚ◌}
use Rattle.lp_theory.specs.Table.{Table, Agree, pivot_table}
use Rattle.base_fractions.specs.Operation.{Operation, first_wide, operation_of}
use Rattle.lp_dictionary.specs.PivotOperations.{pivot_operations}
use Rattle.lp_simplex.specs.declared.scan.Candidate.{Candidate}
use Rattle.lp_simplex.specs.declared.step.Step.{Step}
use Rattle.lp_simplex.specs.declared.step.Step.TheVariants.{Optimal, Ray, Pivot}
use Rattle.lp_simplex.specs.declared.outcome.SolveFault.{SolveFault}
use Rattle.lp_simplex.specs.declared.outcome.SolveFault.TheVariants.{Wide, NoMemory}
use Rattle.lp_simplex.specs.Operations.{ratio_operations}

-- of the first n columns the one of the smallest name with a positive entry in the row g, if there is one
abbrev pub EntersAt : Table → ℕ → ℕ → Option ℕ → Type 0
EntersAt T g n None = (k : ℕ) → k < n → T.entry g k ≤ℚ zero_ℚ
EntersAt T g n (Some c) = (c < n) × (zero_ℚ <ℚ T.entry g c) × ((k : ℕ) → k < n → zero_ℚ <ℚ T.entry g k → T.col_name c ≤ T.col_name k)

-- the constant of a row over its negated entry in the column c
abbrev pub ratio_at : Table → ℕ → ℕ → ℚ
ratio_at T c i = T.entry i T.width /ℚ neg_ℚ (T.entry i c)

-- the ratio of a row, if its entry is negative
abbrev pub RatioAt : {F : Type 0} → (F → ℚ) → Table → ℕ → ℕ → Option F → Type 0
RatioAt m T c i None = zero_ℚ ≤ℚ T.entry i c
RatioAt m T c i (Some q) = (T.entry i c <ℚ zero_ℚ) × (m q ≡ ratio_at T c i)

-- the row r has the least ratio of the first n, and the smallest name of those that have it
pub record LeavesAt (T : Table) (c n r : ℕ) : Type 0 where
  pub row : r < n
  pub falls : T.entry r c <ℚ zero_ℚ
  pub least : (i : ℕ) → i < n → T.entry i c <ℚ zero_ℚ → ratio_at T c r ≤ℚ ratio_at T c i
  pub before : (i : ℕ) → i < n → T.entry i c <ℚ zero_ℚ → T.row_name i < T.row_name r → ratio_at T c r <ℚ ratio_at T c i

-- of the first n rows the one that leaves, if one has a negative entry
abbrev pub LeavesOf : Table → ℕ → ℕ → Option ℕ → Type 0
LeavesOf T c n None = (i : ℕ) → i < n → zero_ℚ ≤ℚ T.entry i c
LeavesOf T c n (Some r) = LeavesAt T c n r

-- the same with its ratio
abbrev pub CandidateOf : {F : Type 0} → (F → ℚ) → Table → ℕ → ℕ → Option (Candidate F) → Type 0
CandidateOf m T c n None = (i : ℕ) → i < n → zero_ℚ ≤ℚ T.entry i c
CandidateOf m T c n (Some b) = LeavesAt T c n b.row × (m b.ratio ≡ ratio_at T c b.row)

-- a ratio x with the name a comes before a ratio y with the name b
abbrev pub IsBefore : ℚ → ℕ → ℚ → ℕ → Type 0
IsBefore x a y b = (x <ℚ y) ⊎ ((x ≡ y) × (a < b))

-- a step of the rule made a pivot from T to U, in which the name leaves
pub record PivotMade (limit : ℤ) (T U : Table) (rows width name : ℕ) : Type 0 where
  pub col : ℕ
  pub row : ℕ
  pub enters : EntersAt T rows width (Some col)
  pub leaves : LeavesAt T col rows row
  pub named : name ≡ T.row_name row
  pub table : Agree (pivot_table T row col) U
  pub fits : first_wide limit (ratio_operations T col ++ pivot_operations T row col) ≡ None

-- what a step of the rule did
abbrev pub StepIs : ℤ → Table → Table → ℕ → ℕ → Step → Type 0
StepIs limit T U rows width Optimal = Agree T U × EntersAt T rows width None
StepIs limit T U rows width (Ray c) = Agree T U × EntersAt T rows width (Some c) × LeavesOf T c rows None
StepIs limit T U rows width (Pivot name) = PivotMade limit T U rows width name

-- a ratio of a step, or an operation of its pivot, is the first that is wide
pub record StepWide (limit : ℤ) (T : Table) (rows width : ℕ) (o : Operation) : Type 0 where
  pub col : ℕ
  pub enters : EntersAt T rows width (Some col)
  pub wide : (first_wide limit (ratio_operations T col) ≡ Some o)
      ⊎ ((row : ℕ) × LeavesAt T col rows row × (first_wide limit (ratio_operations T col ++ pivot_operations T row col) ≡ Some o))

-- the fault of a step carries that operation and the number of its pivot
abbrev pub StepRefused : {F : Type 0} → (F → ℚ) → ℤ → Table → ℕ → ℕ → ℕ → SolveFault F → Type 0
StepRefused m limit T rows width number (Wide pivot wide) = (pivot ≡ number) × StepWide limit T rows width (operation_of m wide)
StepRefused m limit T rows width number NoMemory = Unit {0}
