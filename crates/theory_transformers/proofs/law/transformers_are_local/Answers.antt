use Rattle.theory_transformers.proofs.edge_problems.TransformerOf.{transformer_by_source}
use Rattle.theory_transformers.proofs.law.transformers_are_local.Goals as goal

pub returns : goal.returns
returns c = transformer_by_source
