use Rattle.flow_transitions.proofs.walking.Once as once
use Rattle.flow_transitions.proofs.law.one_grouping.Goals as goal

pub returns-clause-one : goal.returns-clause-one
returns-clause-one c = once.one_grouping

pub returns-clause-some : goal.returns-clause-some
returns-clause-some c = once.some_groups
