use Rattle.flow_transitions.proofs.walking.Once.{refused_is}
use Rattle.flow_transitions.proofs.grouping.tokens_in.Goals as goal

pub returns-clause-refused : goal.returns-clause-refused
returns-clause-refused c = refused_is c.args.text.now c.tokens_of.result c.tokens_of.ensures.refused
