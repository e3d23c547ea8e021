use Rattle.theory_transformers.proofs.edge_problems.TransformerOf.{transformer_lub}
use Rattle.theory_transformers.proofs.law.transformers_are_suprema.Goals as goal

pub returns : goal.returns
returns c = transformer_lub
