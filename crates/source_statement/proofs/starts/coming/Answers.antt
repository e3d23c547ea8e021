use Rattle.std.proofs.Common.{◌∙◌, ap}
use Rattle.source_reader.specs.Reading.{first_kind}
use Rattle.source_statement.specs.Starts.{start_in}
use Rattle.source_statement.proofs.kinds.Plain.{plain_start}
use Rattle.source_statement.proofs.starts.coming.Goals as goal

pub returns : goal.returns
returns c = c.start_in.ensures ∙ ap start_in c.symbol.ensures ∙ plain_start (first_kind c.args.reader.now.ahead)
