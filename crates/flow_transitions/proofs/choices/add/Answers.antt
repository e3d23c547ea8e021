use Rattle.std.proofs.Common.{arith}
use Rattle.flow_transitions.proofs.choosing.Chosen.{added, left_out}
use Rattle.flow_transitions.proofs.choices.add.Goals as goal

pub returns-in_ok-push : goal.returns-in_ok-push
returns-in_ok-push c = added c.args.actions.now.items c.args.action c.push.new.self.items (omega arith) c.in_ok-push.ensures.items

pub returns-else-len-lt-KEPT : goal.returns-else-len-lt-KEPT
returns-else-len-lt-KEPT c = left_out c.args.actions.now.items c.args.action (omega arith) (omega arith)
