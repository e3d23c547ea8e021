use Rattle.flow_transitions.proofs.progress.Once.{gives, system_is, fault_is}
use Rattle.flow_transitions.proofs.reading.read.Goals as goal

pub returns-clause-system : goal.returns-clause-system
returns-clause-system c = system_is c.args.text.now c.answer.result c.answer.ensures.system

pub returns-clause-refused : goal.returns-clause-refused
returns-clause-refused c = fault_is c.args.text.now c.answer.result c.answer.ensures.refused

pub returns-clause-exact : goal.returns-clause-exact
returns-clause-exact c = gives c.args.text.now c.answer.result c.answer.ensures.system c.answer.ensures.refused
