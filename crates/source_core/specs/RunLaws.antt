-- What runs of the core keep of those of functions of C.
use Rattle.std.specs.Prelude.{◌≡◌, ◌+◌, ◌==◌, ℕ, Bool, true, List, ◌&&◌, nat_lt, IsTrue, Contains, if◌then◌else◌}
use Rattle.std.specs.List.{list_all}
use Rattle.lang_tree.specs.declared.check.Check.{Check}
use Rattle.lang_tree.specs.Tree.{Condition}
use Rattle.lang_tree.specs.Runs as core
use Rattle.base_integers.specs.declared.integers.Integers.{Integers}
use Rattle.base_integers.specs.declared.integers.Integers.TheVariants.{Mathematical}
use Rattle.source_tree.specs.Expressions.{Expression}
use Rattle.source_tree.specs.Statements.{Change, sets, evaluates, LoopKind, while_loop, for_loop, do_loop}
use Rattle.source_tree.specs.Statements.{Statement, Statements, declares, changes, assumes, asserts, never, branch, loop, jump, label, nil}
use Rattle.source_tree.specs.Statements.{cons}
use Rattle.source_core.specs.Laws.{AreIn, is_over, are_over, is_exact, are_exact}
use Rattle.source_core.specs.Laws.{occurrences, occurrences_in, all_steps, all_steps_in}
use Rattle.source_core.specs.Laws.{are_steps_certain, are_steps_certain_in, steps_apart}
use Rattle.source_core.specs.Core.{core_in}
use Rattle.source_core.specs.SourceRuns.{Configuration, IsRun, IsAt, CheckIsTrue}

-- what is asked of the variables that are declared without a value, of the changes, and of the conditions of statements
pub record Test : Type 0 where
  pub declared : (var : ℕ) → Bool
  pub changed : Change → Bool
  pub tested : (line : ℕ) → Expression → Bool

module _ (test : Test) where
  -- the changes of a `for` pass
  abbrev pub kind_passes : LoopKind → Bool
  kind_passes while_loop = true
  kind_passes (for_loop gs) = list_all test.changed gs
  kind_passes do_loop = true

  abbrev mutual
    -- what a statement declares, its changes and its conditions pass
    pub passes : Statement → Bool
    passes (declares var line) = test.declared var
    passes (changes g) = test.changed g
    passes (assumes e line) = test.tested line e
    passes (asserts e at line) = test.tested line e
    passes (never at line) = true
    passes (branch e first second line) = test.tested line e && (all_pass first && all_pass second)
    passes (loop kind e body line) = kind_passes kind && (test.tested line e && all_pass body)
    passes (jump kind line) = true
    passes (label name line) = true

    -- those of statements in order pass
    pub all_pass : Statements → Bool
    all_pass nil = true
    all_pass (cons s ss) = passes s && all_pass ss

-- a change has no variables but the first n
abbrev pub is_change_over : ℕ → Change → Bool
is_change_over n (sets var e line) = nat_lt var n && is_over n e
is_change_over n (evaluates es line) = are_over n es

-- no variables but the first n
abbrev pub over_test : ℕ → Test
over_test n = record { declared = λ var. nat_lt var n; changed = is_change_over n; tested = λ line e. is_over n e }

-- a statement has no variables but the first n
abbrev pub is_statement_over : ℕ → Statement → Bool
is_statement_over n s = passes (over_test n) s

-- nor has any of these
abbrev pub are_statements_over : ℕ → Statements → Bool
are_statements_over n ss = all_pass (over_test n) ss

-- C comes to each step in a change, and a variable of which a step stands there occurs once, its target counted
abbrev pub is_change_apart : Change → Bool
is_change_apart (sets var e line) = all_steps (λ i. (if var == i then 1 else 0) + occurrences i e == 1) e && are_steps_certain e
is_change_apart (evaluates es line) = all_steps_in (λ i. occurrences_in i es == 1) es && are_steps_certain_in es

-- so in each change and each condition
abbrev pub apart_test : Test
apart_test = record { declared = λ var. true; changed = is_change_apart; tested = λ line e. steps_apart e }

-- so in those of statements
abbrev pub are_statements_apart : Statements → Bool
are_statements_apart ss = all_pass apart_test ss

-- the operations of a change have the values that they have by C, and no more
abbrev pub is_change_exact : ℕ → Change → Bool
is_change_exact n (sets var e line) = is_exact line e n
is_change_exact n (evaluates es line) = are_exact line es n

-- so those of each change and each condition
abbrev pub exact_test : ℕ → Test
exact_test n = record { declared = λ var. true; changed = is_change_exact n; tested = λ line e. is_exact line e n }

-- so those of statements
abbrev pub are_statements_exact : ℕ → Statements → Bool
are_statements_exact n ss = all_pass (exact_test n) ss

-- for each run of a source program there is a run of its core that is at the same points in the same states of its variables
abbrev pub RunsAreKept : Type 0
RunsAreKept = (integers : Integers) (n : ℕ) (body : Statements) → IsTrue (are_statements_over n body)
    → IsTrue (are_statements_apart body) → (run : List Configuration)
    → IsRun integers n body run
    → (kept : List core.Configuration) × core.IsRun n (core_in integers n body) kept
    × ((c : Configuration) → Contains run c → (p : ℕ) → IsAt c p
    → (d : core.Configuration) × Contains kept d × core.IsAt d p × (d.state ≡ c.state))

-- a check that is true in each run of the core, whatever its condition there, is true in each run of the source
abbrev pub ChecksAreKept : Type 0
ChecksAreKept = (integers : Integers) (n : ℕ) (body : Statements) → IsTrue (are_statements_over n body)
    → IsTrue (are_statements_apart body) → (about : Check)
    → ((run : List core.Configuration) → core.IsRun n (core_in integers n body) run → (cond : Condition) → core.CheckIsTrue about cond run)
    → (run : List Configuration) → IsRun integers n body run → CheckIsTrue integers about run

-- a run by a machine's integers is one by all integers
abbrev pub MachineRunsAreRuns : Type 0
MachineRunsAreRuns = (integers : Integers) (n : ℕ) (body : Statements)
    → (run : List Configuration) → IsRun integers n body run → IsRun Mathematical n body run

-- in each state of a run the variables are in the range of its integers
abbrev pub StatesAreInRange : Type 0
StatesAreInRange = (integers : Integers) (n : ℕ) (body : Statements) → IsTrue (are_statements_over n body)
    → (run : List Configuration) → IsRun integers n body run → (c : Configuration) → Contains run c → AreIn integers n c.state

-- the other way round where operations are exact: for each run of the core there is a run of the source that is at the same points in the
-- same states
abbrev pub RunsAreExact : Type 0
RunsAreExact = (n : ℕ) (body : Statements) → IsTrue (are_statements_over n body) → IsTrue (are_statements_apart body)
    → IsTrue (are_statements_exact n body)
    → (run : List core.Configuration) → core.IsRun n (core_in Mathematical n body) run
    → (kept : List Configuration) × IsRun Mathematical n body kept
    × ((d : core.Configuration) → Contains run d → (p : ℕ) → core.IsAt d p
    → (c : Configuration) × Contains kept c × IsAt c p × (c.state ≡ d.state))
