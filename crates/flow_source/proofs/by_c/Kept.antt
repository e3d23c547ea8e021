-- What is so in every run of the core of a function is so in every run by C.
use Rattle.std.proofs.Common.{◌≡◌, ℕ, List, refl, sym, subst, length}
use Rattle.std.specs.Prelude.{IsTrue, Ok, Contains}
use Rattle.lang_tree.specs.Meaning.{State}
use Rattle.lang_tree.specs.Runs as core
use Rattle.source_grammar.specs.Grammar.{Function}
use Rattle.source_tree.specs.Statements.{Statements}
use Rattle.source_core.specs.Core.{core_in}
use Rattle.source_core.specs.SourceRuns.{IsRun as IsRunBy}
use Rattle.source_core.specs.RunLaws.{are_statements_over, are_statements_apart}
use Rattle.source_core.proofs.runs.Runs.{runs-kept}
use Rattle.source_core.proofs.runs.Checks.{checks-kept}
use Rattle.source_meaning.specs.Walk.{walk}
use Rattle.source_meaning.proofs.results.Values.{value_of}
use Rattle.source_meaning.proofs.statements.Good.{kept_over, kept_apart}
use Rattle.source_meaning.proofs.walk.Reads.{Reads, walk_reads}
use Rattle.flow_systems.specs.Equations.{Fits}
use Rattle.flow_systems.specs.States.{rational}
use Rattle.flow_source.specs.ByC.{IsKeptByC}
use Rattle.flow_source.specs.Laws.{BoundsHoldByC, ChecksHoldByC}
use Rattle.flow_source.proofs.by_c.Among.{check_among}
use Rattle.base_integers.specs.declared.integers.Integers.{Integers}

-- the statements of a function are over its variables
over : (integers : Integers) (line : ℕ → ℕ) (f : Function) (names : List (List ℕ)) (body : Statements)
    → walk integers line f ≡ Ok (names, body)
    → IsTrue (are_statements_over (length names) body)
over integers line f names body e = kept_over (length names) body
    (value_of (Reads integers f) (walk integers line f) (names, body) (walk_reads integers line f) e).good.0

-- steps in them stand apart
apart : (integers : Integers) (line : ℕ → ℕ) (f : Function) (names : List (List ℕ)) (body : Statements)
    → walk integers line f ≡ Ok (names, body)
    → IsTrue (are_statements_apart body)
apart integers line f names body e = kept_apart (length names) body
    (value_of (Reads integers f) (walk integers line f) (names, body) (walk_reads integers line f) e).good.0

-- what each state at a point keeps in every run of the core it keeps by C
pub kept_by_c : (integers : Integers) (line : ℕ → ℕ) (f : Function) (names : List (List ℕ)) (body : Statements)
    → walk integers line f ≡ Ok (names, body)
    → (point : ℕ) (Keeps : State → Type 0)
    → ((run : List core.Configuration) (now : core.Configuration) → core.IsRun (length names) (core_in integers (length names) body) run
    → Contains run now → core.IsAt now point → Keeps now.state)
    → IsKeptByC integers (length names) body point Keeps
kept_by_c integers line f names body e point Keeps all run now is among at =
    let kept = runs-kept integers (length names) body (over integers line f names body e) (apart integers line f names body e) run is in
    let d = kept.2 now among point at in
    subst Keeps d.3 (all kept.0 d.0 kept.1 d.1 d.2)

-- a vector that holds in every run of the core holds by C
pub bounds_by_c : BoundsHoldByC
bounds_by_c integers line f names body e system v n holds run now point is among at =
    kept_by_c integers line f names body e point (λ x. Fits system v point (rational x))
    (λ r c are m p. holds r c point (subst (λ k. core.IsRun k (core_in integers (length names) body) r) (sym n) are) m p) run now
    (subst (λ k. IsRunBy integers k body run) n is) among at

-- a check is true by C where all that are about its place are true in every run of the core
pub checks_by_c : ChecksHoldByC
checks_by_c integers line f names body e about each =
    checks-kept integers (length names) body (over integers line f names body e) (apart integers line f names body e) about
    (λ run is cond now among at.
    each record { about = about; cond = cond }
    (check_among (length names) (core_in integers (length names) body) run now about cond is among at) refl run is now among at)
