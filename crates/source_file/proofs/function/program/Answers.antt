use Rattle.source_file.proofs.function.Given.{given, never_unlike}
use Rattle.source_file.proofs.function.program.Goals as goal

pub unreachable-requires : goal.unreachable-requires
unreachable-requires c = never_unlike c.args.integers c.in-Err-Unlike.field-0 _ c.in-Err-Unlike.field-0-is
    (c.in-Err-Unlike.ensures c.requires.read.0 c.requires.read.1 c.requires.read.2)

pub returns-in-Ok : goal.returns-in-Ok
returns-in-Ok c = λ f reads variables. given c.args.integers c.in-Ok.program _ (c.in-Ok.ensures f reads variables)
