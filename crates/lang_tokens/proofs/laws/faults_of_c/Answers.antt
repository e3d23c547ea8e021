use Rattle.lang_tokens.proofs.reading.FaultsOfC.{fault_of_c}
use Rattle.lang_tokens.proofs.laws.faults_of_c.Goals as goal

pub returns : goal.returns
returns c = fault_of_c
