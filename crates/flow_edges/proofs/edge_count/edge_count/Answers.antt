use Rattle.std.proofs.Common.{rules}
use Rattle.flow_edges.proofs.edges.CountLaws.{counted_up_to}
use Rattle.flow_edges.proofs.edge_count.edge_count.Goals as goal

pub returns : goal.returns
returns c = counted_up_to c.args.body.now _ _ (search rules)
