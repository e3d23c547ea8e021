use Rattle.flow_templates.proofs.line.Steps.{tokens_fit}
use Rattle.flow_templates.proofs.line.tokens_of.Goals as goal

pub returns-in-Ok : goal.returns-in-Ok
returns-in-Ok c = (c.in-Ok.ensures.ok, tokens_fit c.args.line.now _ c.in-Ok.ensures.placed)

pub returns-in_default : goal.returns-in_default
returns-in_default c = λ tokens reads. c.in_default.not-NoMemory (c.in-Err.ensures.reads tokens reads)
