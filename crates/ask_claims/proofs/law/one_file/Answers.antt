use Rattle.ask_claims.proofs.claims.Means.{file_once}
use Rattle.ask_claims.proofs.law.one_file.Goals as goal

pub returns : goal.returns
returns c = λ text names points r s m n. file_once text names points r s m n
