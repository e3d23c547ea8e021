-- What runs of the core of a function say of its runs by C.
use Rattle.std.specs.Prelude.{◌≡◌, ℕ, List, Ok, length, Contains}
use Rattle.lang_tree.specs.declared.check.Check.{Check}
use Rattle.lang_tree.specs.Runs as core
use Rattle.flow_edges.specs.Checks.{Checked, checks_in}
use Rattle.source_grammar.specs.Grammar.{Function}
use Rattle.source_tree.specs.Statements.{Statements}
use Rattle.source_core.specs.Core.{core_in}
use Rattle.source_meaning.specs.Walk.{walk}
use Rattle.flow_systems.specs.Equations.{Equations, Vector}
use Rattle.flow_systems.specs.Solutions.{Holds}
use Rattle.flow_source.specs.ByC.{AreRunsByAll, HoldsByC, IsTrueByC}
use Rattle.base_integers.specs.declared.integers.Integers.{Integers}

-- a vector that holds in every run of the core of a function holds by C
abbrev pub BoundsHoldByC : Type 0
BoundsHoldByC = (integers : Integers) (line : ℕ → ℕ) (f : Function) (names : List (List ℕ)) (body : Statements)
    → walk integers line f ≡ Ok (names, body)
    → (system : Equations) (v : Vector) → system.variables ≡ length names → Holds system (core_in integers (length names) body) v
    → HoldsByC integers system body v

-- where the checks of the core that are about a place are true in every run of the core, the place's check is true by C; so it is where the
-- core has none
abbrev pub ChecksHoldByC : Type 0
ChecksHoldByC = (integers : Integers) (line : ℕ → ℕ) (f : Function) (names : List (List ℕ)) (body : Statements)
    → walk integers line f ≡ Ok (names, body)
    → (about : Check)
    → ((check : Checked) → Contains (checks_in (core_in integers (length names) body)) check → check.about ≡ about
    → (run : List core.Configuration) → core.IsRun (length names) (core_in integers (length names) body) run
    → core.CheckIsTrue about check.cond run)
    → IsTrueByC integers (length names) body about

-- a run by some integers is one by all
abbrev pub RunsAreByAll : Type 0
RunsAreByAll = (integers : Integers) (variables : ℕ) (body : Statements) → AreRunsByAll integers variables body
