-- What is true of each function that is read.
use Rattle.std.specs.Prelude.{◌≡◌, ◌≢◌, ◌≤◌, ℕ, List, [], ◌∷◌, length, Ok, IsTrue, Contains}
use Rattle.lang_tree.specs.declared.limits.TheConstants.{MOST_VARIABLES}
use Rattle.lang_tree.specs.declared.check.Check.{Check}
use Rattle.lang_tree.specs.Limits.{is_program}
use Rattle.lang_tree.specs.Tree.{Condition}
use Rattle.lang_tree.specs.Runs as core
use Rattle.source_grammar.specs.Grammar.{Function}
use Rattle.source_tree.specs.Statements.{Statements}
use Rattle.source_core.specs.RunLaws.{are_statements_over, are_statements_apart}
use Rattle.source_core.specs.Core.{core_in}
use Rattle.source_core.specs.SourceRuns.{Configuration, IsRun, IsAt, CheckIsTrue}
use Rattle.source_meaning.specs.Walk.{width_of, walk}
use Rattle.base_integers.specs.declared.integers.Integers.{Integers}

-- a name is none of these
abbrev pub IsNoneOf : List ℕ → List (List ℕ) → Type 0
IsNoneOf name [] = Unit {0}
IsNoneOf name (other ∷ others) = (name ≢ other) × IsNoneOf name others

-- no name stands twice
abbrev pub AreApart : List (List ℕ) → Type 0
AreApart [] = Unit {0}
AreApart (name ∷ names) = IsNoneOf name names × AreApart names

-- each variable of the statements is one of the function's
abbrev pub NamesAreResolved : Type 0
NamesAreResolved = (integers : Integers) (line : ℕ → ℕ) (f : Function) (names : List (List ℕ)) (body : Statements)
    → walk integers line f ≡ Ok (names, body)
    → IsTrue (are_statements_over (length names) body)

-- C comes to each step in a change or a condition, and a variable of which a step stands there occurs once in it
abbrev pub StepsAreApart : Type 0
StepsAreApart = (integers : Integers) (line : ℕ → ℕ) (f : Function) (names : List (List ℕ)) (body : Statements)
    → walk integers line f ≡ Ok (names, body)
    → IsTrue (are_statements_apart body)

-- no two variables have one name
abbrev pub VariablesAreApart : Type 0
VariablesAreApart = (integers : Integers) (line : ℕ → ℕ) (f : Function) (names : List (List ℕ)) (body : Statements)
    → walk integers line f ≡ Ok (names, body)
    → AreApart names

-- there is a variable, and there are no more than there may be
abbrev pub VariablesAreFew : Type 0
VariablesAreFew = (integers : Integers) (line : ℕ → ℕ) (f : Function) (names : List (List ℕ)) (body : Statements)
    → walk integers line f ≡ Ok (names, body)
    → (1 ≤ length names) × (length names ≤ MOST_VARIABLES)

-- hidden variables are numbered from the number of variables on
abbrev pub HiddenAreBehind : Type 0
HiddenAreBehind = (integers : Integers) (line : ℕ → ℕ) (f : Function) (names : List (List ℕ)) (body : Statements)
    → walk integers line f ≡ Ok (names, body)
    → length names ≡ width_of f

-- for each run of the function there is a run of its core that is at the same points in the same states of its variables
abbrev pub FunctionsKeepRuns : Type 0
FunctionsKeepRuns = (integers : Integers) (line : ℕ → ℕ) (f : Function) (names : List (List ℕ)) (body : Statements)
    → walk integers line f ≡ Ok (names, body)
    → (run : List Configuration) → IsRun integers (length names) body run
    → (kept : List core.Configuration) × core.IsRun (length names) (core_in integers (length names) body) kept
    × ((c : Configuration) → Contains run c → (p : ℕ) → IsAt c p
    → (d : core.Configuration) × Contains kept d × core.IsAt d p × (d.state ≡ c.state))

-- a check that is true in each run of its core, whatever its condition there, is true in each run of the function
abbrev pub FunctionsKeepChecks : Type 0
FunctionsKeepChecks = (integers : Integers) (line : ℕ → ℕ) (f : Function) (names : List (List ℕ)) (body : Statements)
    → walk integers line f ≡ Ok (names, body)
    → (about : Check)
    → ((run : List core.Configuration) → core.IsRun (length names) (core_in integers (length names) body) run → (cond : Condition)
    → core.CheckIsTrue about cond run)
    → (run : List Configuration) → IsRun integers (length names) body run → CheckIsTrue integers about run

-- its core is a program within the limits of the language: of variables, statements, leaves of a condition and numbers, with jumps where
-- they may stand
abbrev pub FunctionsAreWithinLimits : Type 0
FunctionsAreWithinLimits = (integers : Integers) (line : ℕ → ℕ) (f : Function) (names : List (List ℕ)) (body : Statements)
    → walk integers line f ≡ Ok (names, body)
    → IsTrue (is_program (length names) (core_in integers (length names) body))
