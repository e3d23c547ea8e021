use Rattle.flow_edges.proofs.constants.FormLimits.{condition_room}
use Rattle.flow_edges.proofs.law.conditions_have_room.Goals as goal

pub returns : goal.returns
returns c = condition_room
