-- What is so in every run of a function by C, by all integers or by those of a machine. The runs of its core are those of a program; these
-- here are its own.
use Rattle.std.specs.Prelude.{ℕ, List, Contains}
use Rattle.lang_tree.specs.declared.check.Check.{Check}
use Rattle.lang_tree.specs.declared.check.CheckKind.{CheckKind}
use Rattle.lang_tree.specs.declared.check.CheckKind.TheVariants.{Assert, Divisor, Error, Index, Range}
use Rattle.lang_tree.specs.Meaning.{State}
use Rattle.source_tree.specs.Statements.{Statements}
use Rattle.source_core.specs.SourceRuns.{Configuration, IsRun, IsAt, CheckIsTrue}
use Rattle.flow_systems.specs.States.{rational}
use Rattle.flow_systems.specs.Equations.{Equations, Vector, Fits}
use Rattle.base_integers.specs.declared.integers.Integers.{Integers}
use Rattle.base_integers.specs.declared.integers.Integers.TheVariants.{Mathematical}

-- the bounds of a vector hold by C where in every run of the function, at every configuration that is at a point, the state fits the vector
-- at that point
abbrev pub HoldsByC : Integers → Equations → Statements → Vector → Type 0
HoldsByC integers system body v = (run : List Configuration) (now : Configuration) (point : ℕ) →
    IsRun integers system.variables body run → Contains run now → IsAt now point → Fits system v point (rational now.state)

-- the check of a place is true by C where no run of the function, which has so many variables, breaks it
abbrev pub IsTrueByC : (integers : Integers) (variables : ℕ) → Statements → Check → Type 0
IsTrueByC integers variables body about = (run : List Configuration) → IsRun integers variables body run → CheckIsTrue integers about run

-- a condition on states is true by C at a point where in every run of the function each state at the point keeps it
abbrev pub IsKeptByC : (integers : Integers) (variables : ℕ) → Statements → (point : ℕ) → (State → Type 0) → Type 0
IsKeptByC integers variables body point Keeps =
    (run : List Configuration) (now : Configuration) → IsRun integers variables body run → Contains run now → IsAt now point
    → Keeps now.state

-- a check of this kind is of an operation that may have no value: one that overflows, a division by 0, or an element that isn't there
abbrev pub IsOfOperation : CheckKind → Type 0
IsOfOperation Assert = ⊥
IsOfOperation Divisor = Unit {0}
IsOfOperation Error = ⊥
IsOfOperation Index = Unit {0}
IsOfOperation Range = Unit {0}

-- every operation has a value by C: no run of the function comes to one that overflows, that divides by 0, or whose element isn't there
abbrev pub AllHaveValues : (integers : Integers) (variables : ℕ) → Statements → Type 0
AllHaveValues integers variables body = (about : Check) → IsOfOperation about.kind → IsTrueByC integers variables body about

-- each run of the function by these integers is one by all
abbrev pub AreRunsByAll : (integers : Integers) (variables : ℕ) → Statements → Type 0
AreRunsByAll integers variables body = (run : List Configuration) → IsRun integers variables body run
    → IsRun Mathematical variables body run
