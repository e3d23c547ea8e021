use Rattle.theory_transformers.proofs.edge_problems.TransformerOf.{transformer_reaches}
use Rattle.theory_transformers.proofs.law.transformers_are_reached.Goals as goal

pub returns : goal.returns
returns c = transformer_reaches
