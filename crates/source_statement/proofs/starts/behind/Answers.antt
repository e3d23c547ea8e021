use Rattle.std.proofs.Common.{◌∙◌, ap}
use Rattle.source_reader.specs.Reading.{behind_first, first_kind}
use Rattle.source_statement.specs.Starts.{start_in}
use Rattle.source_statement.proofs.kinds.Plain.{plain_start}
use Rattle.source_statement.proofs.starts.behind.Goals as goal

pub returns : goal.returns
returns c = c.start_in.ensures ∙ ap start_in c.second.ensures ∙ plain_start (first_kind (behind_first c.args.reader.now.ahead))
