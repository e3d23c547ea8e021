use Rattle.std.proofs.Common.{◌∙◌, ap}
use Rattle.source_reader.specs.Reading.{first_kind}
use Rattle.source_change.specs.Nexts.{begins_change}
use Rattle.source_change.proofs.kinds.Plain.{plain_begins}
use Rattle.source_change.proofs.nexts.has_change.Goals as goal

pub returns : goal.returns
returns c = c.begins_change.ensures ∙ ap begins_change c.symbol.ensures ∙ plain_begins (first_kind c.args.reader.now.ahead)
