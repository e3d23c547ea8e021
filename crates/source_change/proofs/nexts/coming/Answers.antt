use Rattle.std.proofs.Common.{◌∙◌, ap}
use Rattle.source_reader.specs.Reading.{first_kind}
use Rattle.source_change.specs.Nexts.{next_in}
use Rattle.source_change.proofs.kinds.Plain.{plain_next}
use Rattle.source_change.proofs.nexts.coming.Goals as goal

pub returns : goal.returns
returns c = c.next_in.ensures ∙ ap next_in c.symbol.ensures ∙ plain_next (first_kind c.args.reader.now.ahead)
