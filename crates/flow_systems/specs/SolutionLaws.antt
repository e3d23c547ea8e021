-- What is so of every solution.
use Rattle.std.specs.Prelude.{◌≡◌, ◌⊎◌, ℕ, ◌<◌, ℤ, List, length, slice_get, Some, IsTrue}
use Rattle.base_numbers.specs.Rational.{whole}
use Rattle.base_numbers.specs.Extended.{Ext, neg_inf, ◌<ᴱ◌}
use Rattle.lang_tree.specs.declared.form.Form.{Form}
use Rattle.lang_tree.specs.Tree.{Statements}
use Rattle.lang_tree.specs.Meaning.{State, dot, value}
use Rattle.flow_edges.specs.PathLaws.{EdgesArePaths}
use Rattle.flow_systems.specs.States.{dotℚ, valueℚ, rational}
use Rattle.flow_systems.specs.SystemLimits.{is_over}
use Rattle.flow_systems.specs.Equations.{Equations, Vector, PostSolution, Exceeds, Solves, IsBelow, Least}
use Rattle.flow_systems.specs.Solutions.{equations_of_program, Holds}

-- where the edges are the paths of a program and the rows are over its variables, every post-solution holds
abbrev pub PostSolutionsHold : Type 0
PostSolutionsHold = (system : Equations) (body : Statements) (v : Vector) → IsTrue (is_over system.variables system.template)
    → EdgesArePaths system.edges body → PostSolution system v → Holds system body v

-- every post-solution of a program's system, whose rows are over the program's variables, holds
abbrev pub ProgramPostSolutionsHold : Type 0
ProgramPostSolutionsHold = (variables : ℕ) (body : Statements) (template : List (List ℤ)) (v : Vector) →
    IsTrue (is_over variables template) →
    PostSolution (equations_of_program variables body template) v → Holds (equations_of_program variables body template) body v

-- a row and a form have the same value at an integer state and at the rational state that it is
pub record IsRational (state : State) : Type 0 where
  pub size : length (rational state) ≡ length state
  pub rows : (row : List ℤ) → dotℚ row (rational state) ≡ whole (dot row state)
  pub forms : (form : Form) → valueℚ form (rational state) ≡ whole (value form state)

-- of every integer state
abbrev pub IntegerStatesAreRational : Type 0
IntegerStatesAreRational = (state : State) → IsRational state

-- two vectors have the same bounds
abbrev pub IsSame : Equations → Vector → Vector → Type 0
IsSame system v w = (p r : ℕ) → p < system.points → r < length system.template → v p r ≡ w p r

-- there is at most one least vector, and it is any vector that solves the system and is at most every post-solution
abbrev pub AtMostOneLeast : Type 0
AtMostOneLeast = (system : Equations) (v w : Vector) → Least system v → Solves system w →
    ((q : Vector) → PostSolution system q → IsBelow system w q) → IsSame system v w

-- a post-solution at most every post-solution: no number below a bound can do for it
abbrev pub LeastSolutionsAreSupported : Type 0
LeastSolutionsAreSupported = (system : Equations) (v : Vector) → PostSolution system v
    → ((w : Vector) → PostSolution system w → IsBelow system v w) →
    (p r : ℕ) (row : List ℤ) (number : Ext) → 0 < p → p < system.points → slice_get system.template r ≡ Some row → number <ᴱ v p r →
    ¬ (¬ (Exceeds system v p row number))

-- so it is least wherever it is decided whether a transition exceeds a number
abbrev pub LeastWhereDecided : Type 0
LeastWhereDecided = (system : Equations) (v : Vector) → PostSolution system v → ((w : Vector) → PostSolution system w → IsBelow system v w)
    →
    ((p : ℕ) (row : List ℤ) (number : Ext) → Exceeds system v p row number ⊎ (¬ (Exceeds system v p row number))) → Least system v

-- a bound of a solution at a point is -inf for all rows of the template or for none
abbrev pub UnreachedAtAllRows : Type 0
UnreachedAtAllRows = (system : Equations) (v : Vector) → Solves system v → (p r s : ℕ) → p < system.points → r < length system.template →
    s < length system.template →
    v p r ≡ neg_inf → v p s ≡ neg_inf
