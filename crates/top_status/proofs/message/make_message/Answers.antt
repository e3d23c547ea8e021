use Rattle.std.proofs.Common.{◌∙◌}
use Rattle.top_status.proofs.message.Worded.{plain_one}
use Rattle.top_status.proofs.message.make_message.Goals as goal

pub returns-in_default : goal.returns-in_default
returns-in_default c = c.plain_message.ensures ∙ plain_one _ _ _ c.in_default.not-Certificate c.in_default.not-Exceeded
