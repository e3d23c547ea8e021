-- What is so in every run of the core of a program is so in every run by C.
use Rattle.std.proofs.Common.{◌≡◌, ◌<◌, ℕ, List, arith, length, refl, sym, subst}
use Rattle.std.specs.Prelude.{ℤ, Contains, IsTrue, Ok}
use Rattle.lang_tree.specs.declared.check.Check.{Check}
use Rattle.lang_tree.specs.Meaning.{State}
use Rattle.lang_tree.specs.Runs.{CheckIsTrue, Configuration, IsAt, IsRun}
use Rattle.lang_tree.specs.Tree.{Statements}
use Rattle.source_grammar.specs.Grammar.{Function}
use Rattle.source_tree.specs.Statements as c
use Rattle.source_core.proofs.runs.Machine.{machine-runs}
use Rattle.source_meaning.specs.Walk.{walk}
use Rattle.source_meaning.proofs.results.Values.{value_of}
use Rattle.source_meaning.proofs.walk.Reads.{Reads, walk_reads}
use Rattle.source_file.proofs.meaning.Walked.{read_by_walk}
use Rattle.flow_edges.specs.Checks.{Checked, checks_in}
use Rattle.flow_systems.specs.Equations.{Least, Vector}
use Rattle.flow_systems.specs.Solutions.{Holds, equations_of_program}
use Rattle.flow_systems.specs.SystemLimits.{is_over}
use Rattle.flow_systems.proofs.states.Soundness.{program_soundness}
use Rattle.flow_source.specs.ByC.{IsKeptByC, IsOfOperation}
use Rattle.flow_source.proofs.by_c.Kept.{bounds_by_c, checks_by_c, kept_by_c}
use Rattle.top_texts.specs.ByC.{CheckHoldsInSource, HoldsInSource, InSource, OperationsHaveValues, RunsAreByAll}
use Rattle.top_texts.specs.CheckTexts.{IsTrueInEachRun}
use Rattle.top_texts.specs.Texts.{HasCore, Program, Reading}
use Rattle.top_texts.proofs.texts.Readings.{core_is}

-- statements that a program means are those of a function
walked : (program : Program) (names : List (List ℕ)) (statements : c.Statements) → Reading program (Ok (names, statements))
    → (line : ℕ → ℕ) × (f : Function) × (walk program.integers line f ≡ Ok (names, statements))
walked program names statements (ts, r, m) = read_by_walk program.integers program.text program.function ts names statements m

module _ (program : Program) (names : List (List ℕ)) (body : Statements) (core : HasCore program names body) where
  -- the least bounds over a template hold by C
  pub bounds_in_source : (template : List (List ℤ)) (v : Vector) → IsTrue (is_over (length names) template)
      → Least (equations_of_program (length names) body template) v
      → HoldsInSource program names (equations_of_program (length names) body template) v
  bounds_in_source template v over least statements r =
      let w = walked program names statements r in
      let system = equations_of_program (length names) body template in
      let holds : Holds system body v = program_soundness (length names) body template v over least.solves.post in
      bounds_by_c program.integers w.0 w.1 names statements w.2 system v refl
      (subst (λ b. Holds system b v) (core_is program names body statements core r) holds)

  -- the check of a place is true by C where all that are about it are true in every run of the core
  pub check_in_source : (about : Check)
      → ((check : Checked) → Contains (checks_in body) check → check.about ≡ about → IsTrueInEachRun (length names) body check)
      → CheckHoldsInSource program names about
  check_in_source about each statements r =
      let w = walked program names statements r in
      let is = core_is program names body statements core r in
      checks_by_c program.integers w.0 w.1 names statements w.2 about
      (λ check among same run a.
      subst (λ x. CheckIsTrue x check.cond run) same
      (subst (λ b. IsTrueInEachRun (length names) b check) is (each check (subst (λ b. Contains (checks_in b) check) (sym is) among) same)
      run a))

  -- every operation has a value by C where the checks of all are true in every run of the core
  pub operations_in_source : ((check : Checked) → Contains (checks_in body) check → IsOfOperation check.about.kind
      → IsTrueInEachRun (length names) body check) → OperationsHaveValues program names
  operations_in_source each statements r about is =
      check_in_source about (λ check among same. each check among (subst (λ (a : Check). IsOfOperation a.kind) (sym same) is)) statements r

  -- what each state at a point keeps in every run of the core it keeps by C
  pub kept_in_source : (point : ℕ) (Keeps : State → Type 0)
      → ((run : List Configuration) (now : Configuration) → IsRun (length names) body run → Contains run now → IsAt now point
      → Keeps now.state)
      → InSource program names (λ statements. IsKeptByC program.integers (length names) statements point Keeps)
  kept_in_source point Keeps all statements r =
      let w = walked program names statements r in
      kept_by_c program.integers w.0 w.1 names statements w.2 point Keeps
      (λ run now is. all run now (subst (λ b. IsRun (length names) b run) (sym (core_is program names body statements core r)) is))

-- each run by C is one by all integers
pub runs_in_source : (program : Program) (names : List (List ℕ)) → RunsAreByAll program names
runs_in_source program names statements r = machine-runs program.integers (length names) statements

-- a program has a variable
pub some_names : (program : Program) (names : List (List ℕ)) (body : Statements) → HasCore program names body → 0 < length names
some_names program names body core =
    let w = walked program names core.statements core.reading in
    let some = (value_of (Reads program.integers w.1) (walk program.integers w.0 w.1) (names, core.statements)
    (walk_reads program.integers w.0 w.1) w.2).some in
    omega (arith, some)
