use Rattle.std.proofs.Common.{length}
use Rattle.source_meaning.specs.Walk.{walk}
use Rattle.source_meaning.proofs.statements.Good.{kept_over, kept_apart}
use Rattle.source_meaning.proofs.results.Values.{value_of}
use Rattle.source_meaning.proofs.walk.Reads.{Reads, walk_reads}
use Rattle.source_meaning.proofs.laws.names_are_resolved.Goals as goal

pub returns-clause-resolved : goal.returns-clause-resolved
returns-clause-resolved c = λ integers line f names body e.
    kept_over (length names) body
    (value_of (Reads integers f) (walk integers line f) (names, body) (walk_reads integers line f) e).good.0

pub returns-clause-steps : goal.returns-clause-steps
returns-clause-steps c = λ integers line f names body e.
    kept_apart (length names) body
    (value_of (Reads integers f) (walk integers line f) (names, body) (walk_reads integers line f) e).good.0

pub returns-clause-apart : goal.returns-clause-apart
returns-clause-apart c = λ integers line f names body e.
    (value_of (Reads integers f) (walk integers line f) (names, body) (walk_reads integers line f) e).apart

pub returns-clause-few : goal.returns-clause-few
returns-clause-few c = λ integers line f names body e.
    let r = value_of (Reads integers f) (walk integers line f) (names, body) (walk_reads integers line f) e in (r.some, r.few)

pub returns-clause-behind : goal.returns-clause-behind
returns-clause-behind c = λ integers line f names body e.
    (value_of (Reads integers f) (walk integers line f) (names, body) (walk_reads integers line f) e).width
