use Rattle.std.proofs.Common.{◌∙◌, ap}
use Rattle.source_reader.specs.Reading.{first_kind}
use Rattle.source_change.specs.Nexts.{step_in}
use Rattle.source_change.proofs.kinds.Plain.{plain_step}
use Rattle.source_change.proofs.nexts.step.Goals as goal

pub returns : goal.returns
returns c = c.step_in.ensures ∙ ap step_in c.symbol.ensures ∙ plain_step (first_kind c.args.reader.now.ahead)
