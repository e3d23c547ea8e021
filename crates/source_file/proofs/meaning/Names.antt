-- The variables of a function that is meant are names of the language, no two of which are one.
use Rattle.std.proofs.Common.{sym, subst}
use Rattle.lang_tokens.specs.Lines.{line_at}
use Rattle.source_meaning.specs.Walk.{walk}
use Rattle.source_meaning.specs.Laws.{VariablesAreApart}
use Rattle.source_meaning.proofs.results.Values.{value_of}
use Rattle.source_tokens.proofs.placed.Fronts.{range_in}
use Rattle.source_constants.specs.Directives.{code_of}
use Rattle.source_file.specs.Laws.{ProgramNamesAreNames}
use Rattle.source_file.specs.Meaning.{item_of}
use Rattle.source_file.proofs.functions.Placed.{code_in}
use Rattle.source_file.proofs.meaning.Named.{AllNamed, AreNamed, tokens_named, walk_named}
use Rattle.source_file.proofs.meaning.Walked.{means_walked}

-- they are names of the language, and stand once
pub program_names : VariablesAreApart → ProgramNamesAreNames
program_names apart integers text asked ts names body placed m =
    let (definitions, d, (f, reads, e)) = means_walked integers text (names, body) asked ts m in
    let placed = range_in text (code_of ts) d.first d.end (code_in text ts placed) in (
      value_of AreNamed (walk integers (line_at text) f) (names, body)
          (walk_named integers (line_at text) f
          (subst AllNamed (sym reads.spelled) (tokens_named definitions text (item_of (code_of ts) d) placed))) e,
      apart integers (line_at text) f names body e,
    )
