use Rattle.flow_transitions.proofs.progress.Once.{answered, refused}
use Rattle.flow_transitions.proofs.reading.answer.Goals as goal

pub returns-clause-system : goal.returns-clause-system
returns-clause-system c =
    answered c.args.text.now c.in_ok-tokens.tokens.items c.deref.result.now c.system_of.result c.deref.ensures.value
    c.in_ok-tokens.ensures.reads c.system_of.ensures.system

pub returns-clause-refused : goal.returns-clause-refused
returns-clause-refused c =
    refused c.args.text.now c.in_ok-tokens.tokens.items c.deref.result.now c.system_of.result c.deref.ensures.value
    c.in_ok-tokens.ensures.reads c.system_of.ensures.refused
