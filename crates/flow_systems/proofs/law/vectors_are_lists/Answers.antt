use Rattle.flow_systems.proofs.view.Listed.{listed_law}
use Rattle.flow_systems.proofs.law.vectors_are_lists.Goals as goal

pub returns : goal.returns
returns c = listed_law
