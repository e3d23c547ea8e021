use Rattle.std.proofs.Common.{◌∙◌, ap}
use Rattle.source_reader.specs.Reading.{behind_first, first_kind}
use Rattle.source_change.specs.Nexts.{next_in}
use Rattle.source_change.proofs.kinds.Plain.{plain_next}
use Rattle.source_change.proofs.nexts.behind.Goals as goal

pub returns : goal.returns
returns c = c.next_in.ensures ∙ ap next_in c.second.ensures ∙ plain_next (first_kind (behind_first c.args.reader.now.ahead))
