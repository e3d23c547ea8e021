use Rattle.source_file.proofs.meaning.Names.{program_names}
use Rattle.source_file.proofs.laws.program_names_are_names.Goals as goal

pub returns : goal.returns
returns c = program_names c.names_are_resolved.ensures.apart
