use Rattle.acsl_notes.proofs.written.Names.{program_names}
use Rattle.acsl_notes.proofs.laws.program_names_are_names.Goals as goal

pub returns : goal.returns
returns c = program_names c.program_names_are_names.ensures
