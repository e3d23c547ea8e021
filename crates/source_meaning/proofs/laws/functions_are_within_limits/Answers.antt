use Rattle.source_meaning.specs.Walk.{walk}
use Rattle.source_meaning.proofs.results.Values.{value_of}
use Rattle.source_meaning.proofs.walk.Reads.{Reads, walk_reads, program_limited}
use Rattle.source_meaning.proofs.laws.functions_are_within_limits.Goals as goal

pub returns : goal.returns
returns c = λ integers line f names body e.
    program_limited integers f (names, body)
    (value_of (Reads integers f) (walk integers line f) (names, body) (walk_reads integers line f) e)
