use Rattle.source_core.proofs.runs.Runs.{runs-kept}
use Rattle.source_core.proofs.runs.Checks.{checks-kept}
use Rattle.std.proofs.Common.{length}
use Rattle.source_meaning.specs.Walk.{walk}
use Rattle.source_meaning.proofs.results.Values.{value_of}
use Rattle.source_meaning.proofs.statements.Good.{kept_over, kept_apart}
use Rattle.source_meaning.proofs.walk.Reads.{Reads, walk_reads}
use Rattle.source_meaning.proofs.laws.functions_keep_runs.Goals as goal

pub returns-clause-runs : goal.returns-clause-runs
returns-clause-runs c = λ integers line f names body e.
    let g = (value_of (Reads integers f) (walk integers line f) (names, body) (walk_reads integers line f) e).good.0 in
    runs-kept integers (length names) body (kept_over (length names) body g) (kept_apart (length names) body g)

pub returns-clause-checks : goal.returns-clause-checks
returns-clause-checks c = λ integers line f names body e.
    let g = (value_of (Reads integers f) (walk integers line f) (names, body) (walk_reads integers line f) e).good.0 in
    checks-kept integers (length names) body (kept_over (length names) body g) (kept_apart (length names) body g)
